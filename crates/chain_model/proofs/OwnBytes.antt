-- The sectors that a volume holds have the bytes that it holds.
use Rattle.std.proofs.Common.{◌≡◌, ℕ, ◌+◌, ◌-◌, ◌*◌, ◌/◌, ◌%◌, ◌^◌, ◌<◌, ◌≤◌, Bool, true, false, nat_lt, List, Option, Some, None, Result, Ok, Err, refl, sym, ap, ◌∙◌, arith}
use Rattle.std.specs.Prelude.{◌==◌, not, if◌then◌else◌, option_map, slice_index}
use Rattle.std.proofs.Math.Nat.{mul-mod_left}
use Rattle.std.proofs.lemmas.Bool.{lt-ltb}
use Rattle.std.proofs.lemmas.List.{get_or-replicate}
use Rattle.std.proofs.lemmas.Nat.{div-add-mod', div-mul-add, mod-mul-add, mod_below, pow-add, pow_pos}
use Rattle.sd_names.specs.declared.fault.LayerFault.{LayerFault}
use Rattle.sd_names.specs.declared.fault.LayerFault.TheVariants.{Compressed, MixedBits}
use Rattle.sd_names.specs.declared.kinds.Format.TheVariants.{Raw, Cow}
use Rattle.shared_disk.specs.Content.{File, zero_sector}
use Rattle.qcow_format.specs.Entry.{bits_between, entry_in, is_l2_entry, offset_in}
use Rattle.qcow_format.specs.declared.entry.Entry.{Entry}
use Rattle.qcow_format.specs.declared.entry.Entry.TheVariants.{Absent, Zero, Data}
use Rattle.qcow_format.specs.declared.header.Header.{Header}
use Rattle.qcow_format.proofs.Kept.{cluster_range, read_without_fault}
use Rattle.volume_meta.specs.declared.record.VolumeRecord.{VolumeRecord}
use Rattle.image_model.specs.File.{file_of, sector_in}
use Rattle.image_model.specs.Layer.{Tables, byte_behind, cluster_size, entries, entry_at, entry_behind, entry_or_absent, l1_entry, l2_at, own_byte}
use Rattle.chain_model.specs.Own.{header_in, own_in, sector_behind, sector_by_header, sectors_of}
use Rattle.chain_model.proofs.LongerFiles.{header_behind}

-- ---- an entry of data names a whole sector

abbrev IsWhole : Entry → Type 0
IsWhole Absent = Unit {0}
IsWhole (Zero place) = Unit {0}
IsWhole (Data place) = place % 512 ≡ 0

whole_in : (word version at : ℕ) → IsWhole (entry_or_absent (entry_in word version at))
whole_in word version at = go (not (bits_between 62 63 word == 0)) (not (is_l2_entry word version)) (not (bits_between 0 1 word == 0)) (offset_in word == 0)
  where
    go : (a b c d : Bool) → IsWhole (entry_or_absent (if a then Err (Compressed at) else (if b then Err (MixedBits at) else (if c then Ok (Zero (offset_in word)) else (if d then Ok Absent else Ok (Data (offset_in word)))))))
    go true b c d = tt
    go false true c d = tt
    go false false true d = tt
    go false false false true = tt
    go false false false false = mul-mod_left (bits_between 9 56 word) 512

whole_behind : (t : Tables) (j : ℕ) (r : Result (Option ℕ) LayerFault) → IsWhole (entry_behind t j r)
whole_behind t j (Ok (Some table)) = whole_in (t.file.word (l2_at table j / 8)) t.header.version (l2_at table j)
whole_behind t j (Ok None) = tt
whole_behind t j (Err fault) = tt

whole : (t : Tables) (k : ℕ) → IsWhole (entry_at t k)
unfolding entry_at
whole t k = go (nat_lt (k / entries t) t.header.l1_size)
  where
    go : (b : Bool) → IsWhole (if b then entry_behind t (k % entries t) (l1_entry t (k / entries t)) else Absent)
    go true = whole_behind t (k % entries t) (l1_entry t (k / entries t))
    go false = tt

-- ---- clusters are whole sectors

-- the byte in a cluster of c sectors, by its sector
record Split (c i : ℕ) : Type 0 where
  cluster : 512 * (i / 512) / (512 * c) ≡ i / (512 * c)
  offset : i % (512 * c) ≡ 512 * (i / 512) % (512 * c) + i % 512
  sector : 512 * (i / 512) % (512 * c) % 512 ≡ 0

split : (c i : ℕ) → 0 < c → Split c i
split c i some =
    let k = i / 512 in
    let q = k / c in
    let m = k % c in
    let w = 512 * c in
    let parts : q * c + m ≡ k = div-add-mod' k c in
    let low : m < c = mod_below k c some in
    let start : 512 * k ≡ q * w + 512 * m = omega (arith, parts) in
    let byte : i ≡ q * w + (512 * m + i % 512) = omega (arith, start) in
    let inside : 512 * m < w = omega (arith, low) in
    let within : 512 * m + i % 512 < w = omega (arith, low) in
    let offset : 512 * k % w ≡ 512 * m = ap (λ n. n % w) start ∙ mod-mul-add q w (512 * m) inside in
    record {
      cluster = ap (λ n. n / w) start ∙ div-mul-add q w (512 * m) inside ∙ sym (ap (λ n. n / w) byte ∙ div-mul-add q w (512 * m + i % 512) within);
      offset = ap (λ n. n % w) byte ∙ mod-mul-add q w (512 * m + i % 512) within ∙ ap (λ n. n + i % 512) (sym offset);
      sector = ap (λ n. n % 512) offset ∙ omega arith;
    }

clusters : (bits : ℕ) → 9 ≤ bits → 2 ^ bits ≡ 512 * 2 ^ (bits - 9)
clusters bits low = let parts : bits ≡ 9 + (bits - 9) = omega arith in ap (λ n. 2 ^ n) parts ∙ pow-add 2 9 (bits - 9)

-- ---- and so its bytes are those of the sector

same_place : (f : File) (place at r : ℕ) → place % 512 ≡ 0 → at % 512 ≡ 0 → r < 512
    → slice_index (sector_in f.size f.stable ((place + at) / 512)) r ≡ slice_index (sector_in f.size f.stable ((place + (at + r)) / 512)) ((place + (at + r)) % 512)
same_place f place at r p q low =
    let sector : (place + (at + r)) / 512 ≡ (place + at) / 512 = omega (arith, p, q, low) in
    let byte : (place + (at + r)) % 512 ≡ r = omega (arith, p, q, low) in
    rw (sector, byte) refl

byte_of_entry : (f : File) (h : Header) (at r offset : ℕ) (e : Entry) → IsWhole e → at % 512 ≡ 0 → r < 512 → offset ≡ at + r
    → option_map (λ (s : List ℕ). slice_index s r) (sector_behind f at e) ≡ byte_behind (record { header = h; file = file_of f.size f.stable }) offset e
unfolding file_of zero_sector
byte_of_entry f h at r offset Absent w q low is = refl
byte_of_entry f h at r offset (Zero place) w q low is = ap (λ (n : ℕ). Some n) (get_or-replicate 512 r 0 0 low)
byte_of_entry f h at r offset (Data place) w q low is =
    ap (λ (n : ℕ). Some n) (same_place f place at r w q low)
    ∙ ap (λ (o : ℕ). Some (slice_index (sector_in f.size f.stable ((place + o) / 512)) ((place + o) % 512))) (sym is)

wide : (x : VolumeRecord) (f : File) (h : Header) → header_in x f ≡ Ok h → 9 ≤ h.cluster_bits
wide x f h e =
    let read = (header_behind (file_of f.size f.stable) x.capacity h e).1 in
    let range = (cluster_range h (read_without_fault (file_of f.size f.stable).head h read)).0 in
    omega (arith, range)

abbrev tables : File → Header → Tables
tables f h = record { header = h; file = file_of f.size f.stable }

layer_bytes : (f : File) (h : Header) (i c : ℕ) → cluster_size (tables f h) ≡ 512 * c → 0 < c
    → option_map (λ (s : List ℕ). slice_index s (i % 512)) (sector_by_header f (i / 512) (Ok h)) ≡ own_byte (tables f h) i
unfolding own_byte
layer_bytes f h i c size some =
    let s = split c i some in
    let t = tables f h in
    let start : 512 * (i / 512) % cluster_size t % 512 ≡ 0 = rw size s.sector in
    let offset : i % cluster_size t ≡ 512 * (i / 512) % cluster_size t + i % 512 = rw size s.offset in
    let cluster : 512 * (i / 512) / cluster_size t ≡ i / cluster_size t = rw size s.cluster in
    byte_of_entry f h (512 * (i / 512) % cluster_size t) (i % 512) (i % cluster_size t) (entry_at t (512 * (i / 512) / cluster_size t)) (whole t (512 * (i / 512) / cluster_size t)) start (omega arith) offset
    ∙ ap (λ k. byte_behind t (i % cluster_size t) (entry_at t k)) cluster

pub layer_sector_bytes : (x : VolumeRecord) (f : File) (h : Header) (i : ℕ) → x.format ≡ Cow → header_in x f ≡ Ok h → i / 512 < sectors_of x
    → option_map (λ (s : List ℕ). slice_index s (i % 512)) (own_in x f (i / 512)) ≡ own_byte (tables f h) i
unfolding own_in
layer_sector_bytes x f h i cow e low =
    let inside : nat_lt (i / 512) (sectors_of x) ≡ true = lt-ltb (i / 512) (sectors_of x) low in
    let bits = wide x f h e in
    rw (inside, cow, e) (layer_bytes f h i (2 ^ (h.cluster_bits - 9)) (clusters h.cluster_bits bits) (pow_pos (h.cluster_bits - 9)))

pub raw_sector_bytes : (x : VolumeRecord) (f : File) (i : ℕ) → x.format ≡ Raw → i / 512 < sectors_of x
    → option_map (λ (s : List ℕ). slice_index s (i % 512)) (own_in x f (i / 512)) ≡ Some ((file_of f.size f.stable).byte i)
unfolding own_in file_of
raw_sector_bytes x f i raw low =
    let inside : nat_lt (i / 512) (sectors_of x) ≡ true = lt-ltb (i / 512) (sectors_of x) low in
    rw (inside, raw) refl
