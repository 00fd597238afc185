-- A layer whose entries and bytes are the same holds the same sectors.
use Rattle.std.proofs.Common.{◌≡◌, ◌⊎◌, ℕ, ◌+◌, ◌*◌, ◌/◌, ◌%◌, ◌<◌, ◌≤◌, Bool, true, false, nat_lt, List, length, replicate, Option, Some, None, Result, Ok, Err, refl, sym, ap, ◌∙◌, subst, inl, inr, arith}
use Rattle.std.specs.Prelude.{if◌then◌else◌, option_map, slice_index}
use Rattle.std.proofs.lemmas.Bool.{cases_lt}
use Rattle.std.proofs.lemmas.Grind.{same_number_lists}
use Rattle.std.proofs.lemmas.Option.{none-some, same_Some}
use Rattle.sd_names.specs.declared.fault.LayerFault.{LayerFault}
use Rattle.sd_names.specs.declared.kinds.Format.{Format}
use Rattle.sd_names.specs.declared.kinds.Format.TheVariants.{Cow}
use Rattle.shared_disk.specs.Content.{File, zero_sector}
use Rattle.shared_disk.specs.WellFormed.{IsWellFormedFile}
use Rattle.shared_disk.proofs.WellFormed.{zeros_are}
use Rattle.qcow_format.specs.declared.entry.Entry.{Entry}
use Rattle.qcow_format.specs.declared.entry.Entry.TheVariants.{Absent, Zero, Data}
use Rattle.qcow_format.specs.declared.header.Header.{Header}
use Rattle.volume_meta.specs.declared.record.VolumeRecord.{VolumeRecord}
use Rattle.image_model.specs.File.{sector_in}
use Rattle.image_model.specs.Layer.{cluster_size, entry_at, own_byte}
use Rattle.chain_model.specs.Own.{header_in, own_in, sector_behind, sector_by_format, sector_by_header, sectors_of}
use Rattle.chain_model.proofs.Held.{none_past_capacity}
use Rattle.chain_model.proofs.OwnBytes.{layer_sector_bytes}
use Rattle.layer_laws.specs.Laws.{layer}
use Rattle.layer_writing.specs.Holding.{on_medium}

-- ---- sectors have 512 bytes

abbrev HasLength : Option (List ℕ) → Type 0
HasLength None = Unit {0}
HasLength (Some s) = length s ≡ 512

in_length : (f : File) (n : ℕ) → IsWellFormedFile f → length (sector_in f.size f.stable n) ≡ 512
unfolding zero_sector
in_length f n formed = go (nat_lt n f.size)
  where
    go : (b : Bool) → length (if b then f.stable n else replicate 512 0) ≡ 512
    go true = (formed.stable n).len
    go false = zeros_are.len

own_length : (x : VolumeRecord) (f : File) (k : ℕ) → x.format ≡ Cow → IsWellFormedFile f → HasLength (own_in x f k)
unfolding own_in
own_length x f k cow formed = go (nat_lt k (sectors_of x))
  where
    behind : (at : ℕ) (e : Entry) → HasLength (sector_behind f at e)
    behind at Absent = tt
    behind at (Zero place) = zeros_are.len
    behind at (Data place) = in_length f ((place + at) / 512) formed

    by_header : (r : Result Header LayerFault) → HasLength (sector_by_header f k r)
    by_header (Ok h) = behind (512 * k % cluster_size (layer h (on_medium f))) (entry_at (layer h (on_medium f)) (512 * k / cluster_size (layer h (on_medium f))))
    by_header (Err fault) = tt

    go : (b : Bool) → HasLength (if b then sector_by_format x.format x f k else None)
    go true = subst (λ (m : Format). HasLength (sector_by_format m x f k)) (sym cow) (by_header (header_in x f))
    go false = tt

-- ---- sectors are the same where their bytes are

same_sector : (o p : Option (List ℕ)) → HasLength o → HasLength p
    → ((r : ℕ) → r < 512 → option_map (λ (s : List ℕ). slice_index s r) o ≡ option_map (λ (s : List ℕ). slice_index s r) p) → o ≡ p
same_sector None None a b each = refl
same_sector None (Some t) a b each = absurd (none-some (slice_index t 0) (each 0 (omega arith)))
same_sector (Some s) None a b each = absurd (none-some (slice_index s 0) (sym (each 0 (omega arith))))
same_sector (Some s) (Some t) a b each =
    ap (λ (l : List ℕ). Some l) (same_number_lists s t (a ∙ sym b) (λ k low. same_Some (slice_index s k) (slice_index t k) (each k (omega (arith, low, a)))))

-- byte r of sector k
byte_at : (x : VolumeRecord) (f : File) (h : Header) (k r : ℕ) → x.format ≡ Cow → header_in x f ≡ Ok h → k < sectors_of x → r < 512
    → option_map (λ (s : List ℕ). slice_index s r) (own_in x f k) ≡ own_byte (layer h (on_medium f)) (512 * k + r)
byte_at x f h k r cow e inside low =
    let q : (512 * k + r) / 512 ≡ k = omega (arith, low) in
    let m : (512 * k + r) % 512 ≡ r = omega (arith, low) in
    let at = layer_sector_bytes x f h (512 * k + r) cow e (subst (λ (n : ℕ). n < sectors_of x) (sym q) inside) in
    subst (λ (n : ℕ). option_map (λ (s : List ℕ). slice_index s r) (own_in x f n) ≡ own_byte (layer h (on_medium f)) (512 * k + r)) q
    (subst (λ (n : ℕ). option_map (λ (s : List ℕ). slice_index s n) (own_in x f ((512 * k + r) / 512)) ≡ own_byte (layer h (on_medium f)) (512 * k + r)) m at)

pub held_alike : (x : VolumeRecord) (f g : File) (h next : Header) → x.format ≡ Cow → header_in x f ≡ Ok h → header_in x g ≡ Ok next → IsWellFormedFile f → IsWellFormedFile g
    → ((i : ℕ) → own_byte (layer next (on_medium g)) i ≡ own_byte (layer h (on_medium f)) i) → (k : ℕ) → own_in x g k ≡ own_in x f k
held_alike x f g h next cow e is formed also bytes k = go (cases_lt k (sectors_of x))
  where
    go : (k < sectors_of x) ⊎ (sectors_of x ≤ k) → own_in x g k ≡ own_in x f k
    go (inl inside) =
        same_sector (own_in x g k) (own_in x f k) (own_length x g k cow also) (own_length x f k cow formed)
        (λ r low. byte_at x g next k r cow is inside low ∙ bytes (512 * k + r) ∙ sym (byte_at x f h k r cow e inside low))
    go (inr past) = none_past_capacity x g k past ∙ sym (none_past_capacity x f k past)
