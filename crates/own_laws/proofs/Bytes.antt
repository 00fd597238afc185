-- A volume whose layer has the same bytes holds the same sectors.
use Rattle.std.proofs.Common.{◌≡◌, ◌⊎◌, ℕ, ◌+◌, ◌*◌, ◌/◌, ◌%◌, ◌<◌, ◌≤◌, Bool, true, false, nat_lt, List, length, Option, Some, None, Result, Ok, Err, refl, sym, ap, ap₂, ◌∙◌, subst, inl, inr, arith}
use Rattle.std.specs.Prelude.{if◌then◌else◌, option_map, replicate, slice_index}
use Rattle.std.proofs.lemmas.Bool.{cases_lt}
use Rattle.std.proofs.lemmas.Grind.{same_number_lists}
use Rattle.std.proofs.lemmas.List.{length-replicate}
use Rattle.sd_names.specs.declared.fault.LayerFault.{LayerFault}
use Rattle.sd_names.specs.declared.kinds.Format.{Format}
use Rattle.sd_names.specs.declared.kinds.Format.TheVariants.{Raw, Cow}
use Rattle.shared_disk.specs.Content.{File, zero_sector}
use Rattle.shared_disk.specs.WellFormed.{IsWellFormedFile}
use Rattle.qcow_format.specs.declared.entry.Entry.{Entry}
use Rattle.qcow_format.specs.declared.entry.Entry.TheVariants.{Absent, Zero, Data}
use Rattle.qcow_format.specs.declared.header.Header.{Header}
use Rattle.volume_meta.specs.declared.record.VolumeRecord.{VolumeRecord}
use Rattle.image_model.specs.File.{file_of, sector_in}
use Rattle.image_model.specs.Layer.{cluster_size, entry_at, own_byte}
use Rattle.layer_laws.specs.Laws.{layer}
use Rattle.layer_writing.specs.Holding.{on_medium}
use Rattle.chain_model.specs.Own.{header_in, own_in, sector_behind, sector_by_format, sector_by_header, sectors_of}
use Rattle.chain_model.proofs.Held.{none_past_capacity}
use Rattle.chain_model.proofs.OwnBytes.{layer_sector_bytes}
use Rattle.own_laws.specs.Sectors.{IsLayerOf}

-- ---- sectors are whole

abbrev pub IsLong : Option (List ℕ) → Type 0
IsLong None = Unit {0}
IsLong (Some s) = length s ≡ 512

pub long_sector : (f : File) (k : ℕ) → IsWellFormedFile f → length (sector_in f.size f.stable k) ≡ 512
unfolding zero_sector
long_sector f k well = go (nat_lt k f.size)
  where
    go : (b : Bool) → length (if b then f.stable k else replicate 512 0) ≡ 512
    go true = (well.stable k).len
    go false = length-replicate {A = ℕ} 512 0

long_entry : (f : File) (at : ℕ) (e : Entry) → IsWellFormedFile f → IsLong (sector_behind f at e)
unfolding zero_sector
long_entry f at Absent well = tt
long_entry f at (Zero place) well = length-replicate {A = ℕ} 512 0
long_entry f at (Data place) well = long_sector f ((place + at) / 512) well

long_header : (f : File) (k : ℕ) (r : Result Header LayerFault) → IsWellFormedFile f → IsLong (sector_by_header f k r)
long_header f k (Ok h) well = long_entry f (512 * k % cluster_size (layer h (file_of f.size f.stable))) (entry_at (layer h (file_of f.size f.stable)) (512 * k / cluster_size (layer h (file_of f.size f.stable)))) well
long_header f k (Err fault) well = tt

long_format : (format : Format) (x : VolumeRecord) (f : File) (k : ℕ) → IsWellFormedFile f → IsLong (sector_by_format format x f k)
long_format Raw x f k well = long_sector f k well
long_format Cow x f k well = long_header f k (header_in x f) well

long_if : (b : Bool) (o : Option (List ℕ)) → IsLong o → IsLong (if b then o else None)
long_if true o long = long
long_if false o long = tt

own_long : (x : VolumeRecord) (f : File) (k : ℕ) → IsWellFormedFile f → IsLong (own_in x f k)
unfolding own_in
own_long x f k well = long_if (nat_lt k (sectors_of x)) (sector_by_format x.format x f k) (long_format x.format x f k well)

-- ---- and are the same where each byte is

some_byte : (a b : ℕ) → ◌≡◌ {A = Option ℕ} (Some a) (Some b) → a ≡ b
some_byte a b e = cc

pub same_sectors : (s t : List ℕ) → length s ≡ 512 → length t ≡ 512 → ((j : ℕ) → j < 512 → slice_index s j ≡ slice_index t j) → s ≡ t
same_sectors s t long also each = same_number_lists s t (long ∙ sym also) (λ j low. each j (omega (arith, low, long)))

same_options : (a b : Option (List ℕ)) → IsLong a → IsLong b
    → ((j : ℕ) → j < 512 → option_map (λ (s : List ℕ). slice_index s j) a ≡ option_map (λ (s : List ℕ). slice_index s j) b) → a ≡ b
same_options None None long also each = refl
same_options None (Some t) long also each = let no = each 0 (omega arith) in absurd cc
same_options (Some s) None long also each = let no = each 0 (omega arith) in absurd cc
same_options (Some s) (Some t) long also each = ap (λ (u : List ℕ). Some u) (same_sectors s t long also (λ j low. some_byte (slice_index s j) (slice_index t j) (each j low)))

-- a byte of the sector is that of the layer
byte_at : (x : VolumeRecord) (h : Header) (f : File) (k j : ℕ) → IsLayerOf x h f → k < sectors_of x → j < 512
    → option_map (λ (s : List ℕ). slice_index s j) (own_in x f k) ≡ own_byte (layer h (on_medium f)) (512 * k + j)
byte_at x h f k j is low small =
    let sector : (512 * k + j) / 512 ≡ k = omega (arith, small) in
    let byte : (512 * k + j) % 512 ≡ j = omega (arith, small) in
    sym (ap₂ (λ (a b : ℕ). option_map (λ (s : List ℕ). slice_index s b) (own_in x f a)) sector byte)
    ∙ layer_sector_bytes x f h (512 * k + j) is.cow is.header (subst (λ a. a < sectors_of x) (sym sector) low)

pub bytes_hold : (x : VolumeRecord) (h g : Header) (f f' : File) (k : ℕ) → IsLayerOf x h f → IsLayerOf x g f'
    → ((i : ℕ) → i / 512 ≡ k → own_byte (layer g (on_medium f')) i ≡ own_byte (layer h (on_medium f)) i) → own_in x f' k ≡ own_in x f k
bytes_hold x h g f f' k is is' same = go (cases_lt k (sectors_of x))
  where
    go : (k < sectors_of x) ⊎ (sectors_of x ≤ k) → own_in x f' k ≡ own_in x f k
    go (inl low) =
        same_options (own_in x f' k) (own_in x f k) (own_long x f' k is'.well) (own_long x f k is.well) (λ j small.
        byte_at x g f' k j is' low small ∙ same (512 * k + j) (omega (arith, small)) ∙ sym (byte_at x h f k j is low small))
    go (inr past) = none_past_capacity x f' k past ∙ sym (none_past_capacity x f k past)
