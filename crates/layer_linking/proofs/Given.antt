-- Which places a cluster of the virtual disk may get.
use Rattle.std.proofs.Common.{◌≡◌, ◌≢◌, ◌⊎◌, inl, inr, ℕ, ◌+◌, ◌*◌, ◌/◌, ◌%◌, ◌^◌, ◌<◌, ◌≤◌, Bool, true, false, List, length, take, Option, Some, Result, Ok, Err, refl, sym, subst, arith, nat_lt}
use Rattle.std.specs.Prelude.{◌==◌, not, if◌then◌else◌}
use Rattle.std.proofs.Math.Nat.{mul-le-mul_right}
use Rattle.std.proofs.lemmas.Bool.{cases_lt}
use Rattle.std.proofs.lemmas.Bool.Decides.{nat_tests}
use Rattle.std.proofs.lemmas.Nat.{div_below, pow_pos}
use Rattle.sd_names.specs.declared.fault.LayerFault.{LayerFault}
use Rattle.sd_names.specs.declared.fault.LayerFault.TheVariants.{Compressed, MixedBits, Short, Size}
use Rattle.qcow_format.specs.declared.header.Header.{Header}
use Rattle.qcow_format.specs.declared.entry.Entry.{Entry}
use Rattle.qcow_format.specs.declared.entry.Entry.TheVariants.{Absent, Zero, Data}
use Rattle.qcow_format.specs.Entry.{bits_between, entry_in, is_l2_entry, offset_in}
use Rattle.qcow_format.specs.Format.{◌>>=◌}
use Rattle.qcow_format.specs.Header.{fields_of, fine_fields, head_size, header_of, mapped, shape_of, sized, with_format}
use Rattle.qcow_format.proofs.Accepted.{bind_ok, sized_ok}
use Rattle.image_model.specs.File.{File}
use Rattle.image_model.specs.Layer.{Tables, entries, entry_at, l2_at, count_of}
use Rattle.image_model.specs.Soundness.{IsSound, layer_header, layer_header_of, names}
use Rattle.layer_laws.specs.Laws.{IsNamedOnlyAt, entry_position, layer}
use Rattle.layer_laws.proofs.Sound.{clean_of, header_read, shape_of as header_shape, unique, zero_at}
use Rattle.link_laws.specs.Links.{IsAmong, IsCounted, Linked, row_of}
use Rattle.link_laws.proofs.Many.{inside}
use Rattle.layer_writing.specs.Holding.{IsSpare}
use Rattle.layer_linking.proofs.Sizes.{wide}

pub spare_given : (t : Tables) (capacity m place : ℕ) → IsSpare t capacity place → place < 2 ^ 56 → IsCounted t place × IsNamedOnlyAt t capacity m place
spare_given t capacity m place spare low =
    let some = pow_pos t.header.cluster_bits in
    let within = spare.inside in (
      record { begins = spare.begins; fits = omega (arith, some, within); low = low; counted = spare.counted },
      λ x named. absurd (spare.unnamed x named),
    )

-- the place of an entry that reads as zeros
abbrev entry_by : Bool → Bool → Bool → Bool → ℕ → ℕ → Result Entry LayerFault
entry_by a b c d place at =
    if not a then Err (Compressed at) else if not b then Err (MixedBits at) else if not c then Ok (Zero place) else if d then Ok Absent else Ok (Data place)

zero_by : (a b c d : Bool) (o place at : ℕ) → entry_by a b c d o at ≡ Ok (Zero place) → o ≡ place
zero_by false b c d o place at is = absurd cc
zero_by true false c d o place at is = absurd cc
zero_by true true false d o place at is = cc
zero_by true true true true o place at is = absurd cc
zero_by true true true false o place at is = absurd cc

zero_low : (word version place at : ℕ) → entry_in word version at ≡ Ok (Zero place) → place < 2 ^ 56
zero_low word version place at is =
    let same : offset_in word ≡ place = zero_by (bits_between 62 63 word == 0) (is_l2_entry word version) (bits_between 0 1 word == 0) (offset_in word == 0) (offset_in word) place at is in
    subst (λ (x : ℕ). x < 2 ^ 56) same (omega arith)

pub zero_given : (file : File) (capacity k place : ℕ) (h : Header) → layer_header file capacity ≡ Ok h → IsSound file capacity → entry_at (layer h file) k ≡ Zero place → place ≢ 0
    → IsCounted (layer h file) place × IsNamedOnlyAt (layer h file) capacity (entry_position (layer h file) k) place
zero_given file capacity k place h is sound zero some =
    let shape = header_shape file capacity h is in
    let clean = clean_of file capacity h is sound in
    let at = zero_at h file capacity shape clean k place some zero in (
      record {
        begins = at.whole;
        fits = inside h file capacity (entry_position (layer h file) k) place (clean (entry_position (layer h file) k)) at.name;
        low = zero_low (file.word (l2_at at.table (k % entries (layer h file)) / 8)) h.version place (l2_at at.table (k % entries (layer h file))) at.l2;
        counted = (clean (entry_position (layer h file) k)).counted place at.name;
      },
      λ x named. unique h file capacity shape clean x (entry_position (layer h file) k) place named at.name,
    )

-- ---- places that a linking didn't give

module _ (h : Header) (capacity : ℕ) (to behind : ℕ → Option ℕ) (f g : File) (linked : Linked h capacity to behind f g)
    (place : ℕ) (apart : IsAmong to place → ⊥) (other : IsAmong behind place → ⊥) where
  name_before : (m : ℕ) → names (layer h g) capacity m ≡ Some place → names (layer h f) capacity m ≡ Some place
  name_before m named = go (linked.names m place named)
    where
      go : (names (layer h f) capacity m ≡ Some place) ⊎ (IsAmong to place ⊎ IsAmong behind place) → names (layer h f) capacity m ≡ Some place
      go (inl was) = was
      go (inr (inl among)) = absurd (apart among)
      go (inr (inr among)) = absurd (other among)

  count_now : 0 < count_of (layer h f) (place / 2 ^ h.cluster_bits) → 0 < count_of (layer h g) (place / 2 ^ h.cluster_bits)
  count_now some = subst (λ (x : ℕ). 0 < x) (sym (linked.counts (place / 2 ^ h.cluster_bits))) some

  pub spare_after : IsSpare (layer h f) capacity place → IsSpare (layer h g) capacity place
  spare_after spare = record {
    begins = spare.begins;
    inside = subst (λ (x : ℕ). place + 2 ^ h.cluster_bits ≤ x) (sym linked.size) spare.inside;
    counted = count_now spare.counted;
    unnamed = λ m named. spare.unnamed m (name_before m named);
  }

  pub kept_after : (x : ℕ) → IsCounted (layer h f) place × IsNamedOnlyAt (layer h f) capacity x place → IsCounted (layer h g) place × IsNamedOnlyAt (layer h g) capacity x place
  kept_after x was = (
    record {
      begins = was.0.begins;
      fits = subst (λ (n : ℕ). place < n) (sym linked.size) was.0.fits;
      low = was.0.low;
      counted = count_now was.0.counted;
    },
    λ m named. was.1 m (name_before m named),
  )

-- ---- the L1 table reaches as far as the capacity

abbrev shaped_with : List ℕ → Header → Result Header LayerFault
shaped_with bytes h = shape_of (take (head_size h.cluster_bits) bytes) h >>= λ found. sized (with_format h found)

size_mapped : (bytes : List ℕ) (h : Header) → header_of bytes ≡ Ok h → h.size ≤ mapped h
unfolding header_of
size_mapped bytes h e = go (nat_lt (length bytes) 512) e
  where
    go : (b : Bool) → (if b then Err Short else (fine_fields (fields_of bytes) >>= shaped_with bytes)) ≡ Ok h → h.size ≤ mapped h
    go true e = absurd cc
    go false e =
        let a = bind_ok (fine_fields (fields_of bytes)) (shaped_with bytes) h e in
        let b = bind_ok (shape_of (take (head_size a.0.cluster_bits) bytes) a.0) (λ found. sized (with_format a.0 found)) h a.2 in
        let c = sized_ok (with_format a.0 b.0) h (nat_lt (mapped a.0) a.0.size) b.2 in
        let le : a.0.size ≤ mapped a.0 = below (mapped a.0) a.0.size c.0 in
        subst (λ (x : Header). x.size ≤ mapped x) c.1 le
      where
        below : (m s : ℕ) → nat_lt m s ≡ false → s ≤ m
        below m s e = grind (arith, nat_tests)

size_covers : (file : File) (capacity : ℕ) (h : Header) → layer_header file capacity ≡ Ok h → capacity ≤ h.size
unfolding layer_header
size_covers file capacity h e = go (nat_lt file.size 512) e
  where
    by : (r : Result Header LayerFault) → layer_header_of capacity r ≡ Ok h → capacity ≤ h.size
    by (Err fault) e = absurd cc
    by (Ok x) e = last (nat_lt x.size capacity) refl e
      where
        last : (b : Bool) → nat_lt x.size capacity ≡ b → (if b then Err (Size x.size) else Ok x) ≡ Ok h → capacity ≤ h.size
        last true t e = absurd cc
        last false t e = let same : x ≡ h = cc in subst (λ (y : Header). capacity ≤ y.size) same (grind (arith, nat_tests))

    go : (b : Bool) → (if b then Err Short else layer_header_of capacity (header_of file.head)) ≡ Ok h → capacity ≤ h.size
    go true e = absurd cc
    go false e = by (header_of file.head) e

-- a row by the numbers of the table
row_below : (k l e c : ℕ) → 0 < e → 0 < c → k * c < l * (e * c) → 64 * (k / 64) / e < l
row_below k l e c some pos lt = div_below (64 * (k / 64)) e l some (under (cases_lt k (l * e)))
  where
    under : (k < l * e) ⊎ (l * e ≤ k) → 64 * (k / 64) < l * e
    under (inl less) = omega (arith, less)
    under (inr more) =
        let rows : l * e * c ≤ k * c = mul-le-mul_right c more in
        let turned : l * (e * c) ≡ l * e * c = omega arith in
        absurd (omega (arith, rows, turned, lt))

pub row_given : (file : File) (capacity k : ℕ) (h : Header) → layer_header file capacity ≡ Ok h → k * 2 ^ h.cluster_bits < capacity → row_of (layer h file) (k / 64) < h.l1_size
row_given file capacity k h is lt =
    let a = size_covers file capacity h is in
    let m = size_mapped file.head h (header_read file capacity h is) in
    row_below k h.l1_size (2 ^ h.cluster_bits / 8) (2 ^ h.cluster_bits) (eight h.cluster_bits (header_shape file capacity h is).low) (pow_pos h.cluster_bits) (omega (arith, lt, a, m))
  where
    eight : (bits : ℕ) → 12 ≤ bits → 0 < 2 ^ bits / 8
    eight bits low = let w = wide bits low in omega (arith, w)
