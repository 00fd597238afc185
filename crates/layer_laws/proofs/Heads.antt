-- The header of a file whose first cluster stays.
use Rattle.std.proofs.Common.{◌≡◌, ◌≢◌, ℕ, zero, suc, ◌+◌, ◌-◌, ◌*◌, ◌/◌, ◌%◌, ◌^◌, ◌<◌, ◌≤◌, ◌⊎◌, inl, inr, min, Bool, true, false, List, ◌++◌, length, take, drop, get_or, replicate, None, Result, Ok, Err, refl, sym, ap, ◌∙◌, subst, arith, nat_lt, nat_le}
use Rattle.std.specs.Prelude.{◌==◌, ◌&&◌, ◌||◌, not, if◌then◌else◌}
use Rattle.std.proofs.lemmas.Bool.{eqb-false, ne_eqb}
use Rattle.sd_names.specs.Id.{id_of}
use Rattle.qcow_format.specs.Name.{backing_id, is_id, is_name, last_part, touches}
use Rattle.std.specs.List.{flat_map, range_with_len}
use Rattle.std.proofs.Math.Seq.{take-append-add}
use Rattle.std.proofs.Math.Nat.{mul-le-mul_right, pow-le-pow_right}
use Rattle.std.proofs.lemmas.Bool.{cases_lt}
use Rattle.std.proofs.lemmas.Bool.Decides.{nat_tests}
use Rattle.std.proofs.lemmas.List.{get_or-take, length-append, length-replicate, length-take}
use Rattle.sd_names.specs.declared.fault.LayerFault.{LayerFault}
use Rattle.sd_names.specs.declared.fault.LayerFault.TheVariants.{Short}
use Rattle.qcow_format.specs.declared.header.Header.{Header}
use Rattle.qcow_format.specs.Bytes.{number}
use Rattle.qcow_format.specs.Format.{◌>>=◌}
use Rattle.qcow_format.specs.Header.{fields_of, fields_of_version_2, fine_fields, head_size, header_of, mapped, shape_of, sized, with_format}
use Rattle.qcow_format.proofs.Accepted.{bind_ok, sized_ok}
use Rattle.qcow_format.proofs.Kept.{cluster_range, kept, part_of, read_without_fault}
use Rattle.qcow_format.proofs.Put.{number-same}
use Rattle.image_model.specs.File.{file_of, sector_in}
use Rattle.image_model.specs.Soundness.{layer_header, layer_header_of}
use Rattle.layer_laws.specs.Laws.{AreSectors, SameOutside}
use Rattle.layer_laws.proofs.Clusters.{sector_same}
use Rattle.layer_laws.proofs.Numbers.{cluster_sectors, whole_place, whole_sector}
use Rattle.layer_laws.proofs.Sound.{header_read}

-- ---- the first sectors of a head

module _ (sector : ℕ → List ℕ) where
  front : (a m d : ℕ) → ((k : ℕ) → a ≤ k → k < a + m → length (sector k) ≡ 512) → take (512 * m) (flat_map sector (range_with_len a (m + d))) ≡ flat_map sector (range_with_len a m)
  front a zero d long = ap (λ n. take n (flat_map sector (range_with_len a (zero + d)))) nothing
    where
      nothing : 512 * zero ≡ 0
      nothing = omega arith
  front a (suc m) d long =
      let one : suc m + d ≡ suc (m + d) = omega arith in
      let here = long a (omega arith) (omega arith) in
      let size : 512 * suc m ≡ length (sector a) + 512 * m = omega (arith, here) in
      ap (λ n. take (512 * suc m) (flat_map sector (range_with_len a n))) one
      ∙ ap (λ n. take n (sector a ++ flat_map sector (range_with_len (a + 1) (m + d)))) size
      ∙ take-append-add (sector a) (flat_map sector (range_with_len (a + 1) (m + d))) (512 * m)
      ∙ ap (λ xs. sector a ++ xs) (front (a + 1) m d (λ k low lt. long k (omega (arith, low)) (omega (arith, lt))))

  front_length : (a m : ℕ) → ((k : ℕ) → a ≤ k → k < a + m → length (sector k) ≡ 512) → length (flat_map sector (range_with_len a m)) ≡ 512 * m
  front_length a zero long = omega arith
  front_length a (suc m) long =
      let here = long a (omega arith) (omega arith) in
      let rest = front_length (a + 1) m (λ k low lt. long k (omega (arith, low)) (omega (arith, lt))) in
      let sum = length-append (sector a) (flat_map sector (range_with_len (a + 1) m)) in
      omega (arith, here, rest, sum)

front_same : (s t : ℕ → List ℕ) (a m : ℕ) → ((k : ℕ) → a ≤ k → k < a + m → t k ≡ s k) → flat_map t (range_with_len a m) ≡ flat_map s (range_with_len a m)
front_same s t a zero same = refl
front_same s t a (suc m) same =
    ap (λ xs. xs ++ flat_map t (range_with_len (a + 1) m)) (same a (omega arith) (omega arith))
    ∙ ap (λ xs. s a ++ xs) (front_same s t (a + 1) m (λ k low lt. same k (omega (arith, low)) (omega (arith, lt))))

-- ---- of the header

module _ (xs ys : List ℕ) (n : ℕ) (low : 4096 ≤ n) (same : take n ys ≡ take n xs) where
  byte_same : (k : ℕ) → k < n → get_or ys k 0 ≡ get_or xs k 0
  byte_same k lt = sym (get_or-take n ys k 0 lt) ∙ ap (λ zs. get_or zs k 0) same ∙ get_or-take n xs k 0 lt

  number_same : (w at : ℕ) → at + w ≤ 104 → number w at ys ≡ number w at xs
  number_same w at le = number-same w at ys xs (λ k ge lt. byte_same k (omega (arith, le, lt, low)))

  fields_same : fields_of ys ≡ fields_of xs
  unfolding fields_of fields_of_version_2
  fields_same =
      rw (
        number_same 4 0 (omega arith),
        number_same 4 4 (omega arith),
        number_same 8 8 (omega arith),
        number_same 4 16 (omega arith),
        number_same 4 20 (omega arith),
        number_same 8 24 (omega arith),
        number_same 4 32 (omega arith),
        number_same 4 36 (omega arith),
        number_same 8 40 (omega arith),
        number_same 8 48 (omega arith),
        number_same 4 56 (omega arith),
        number_same 4 60 (omega arith),
        number_same 8 64 (omega arith),
        number_same 8 72 (omega arith),
        number_same 8 80 (omega arith),
        number_same 8 88 (omega arith),
        number_same 4 96 (omega arith),
        number_same 4 100 (omega arith),
      ) refl

abbrev shaped_with : List ℕ → Header → Result Header LayerFault
shaped_with bytes h = shape_of (take (head_size h.cluster_bits) bytes) h >>= λ found. sized (with_format h found)

abbrev read_with : List ℕ → Header → Result Header LayerFault
read_with bytes h = fine_fields h >>= shaped_with bytes

-- what a header is read from is its first bytes
pub header_same : (xs ys : List ℕ) (h : Header) → header_of xs ≡ Ok h → 512 ≤ length ys → take (head_size h.cluster_bits) ys ≡ take (head_size h.cluster_bits) xs → header_of ys ≡ Ok h
unfolding header_of
header_same xs ys h e long same = go (nat_lt (length xs) 512) e
  where
    range : (12 ≤ h.cluster_bits) × (h.cluster_bits ≤ 21)
    range = cluster_range h (read_without_fault xs h e)

    low : 4096 ≤ head_size h.cluster_bits
    low = wide (2 ^ h.cluster_bits) (pow-le-pow_right (omega arith) range.0)
      where
        wide : (c : ℕ) → 4096 ≤ c → 4096 ≤ min c 65536
        wide c le = omega (arith, le)

    enough : nat_lt (length ys) 512 ≡ false
    enough = grind (arith, nat_tests)

    go : (b : Bool) → (if b then Err Short else read_with xs (fields_of xs)) ≡ Ok h → (if nat_lt (length ys) 512 then Err Short else read_with ys (fields_of ys)) ≡ Ok h
    go true e = absurd cc
    go false e =
        let a = bind_ok (fine_fields (fields_of xs)) (shaped_with xs) h e in
        let b = bind_ok (shape_of (take (head_size a.0.cluster_bits) xs) a.0) (λ found. sized (with_format a.0 found)) h a.2 in
        let c = sized_ok (with_format a.0 b.0) h (nat_lt (mapped a.0) a.0.size) b.2 in
        let bits : a.0.cluster_bits ≡ h.cluster_bits = ap (λ (x : Header). x.cluster_bits) c.1 in
        let head : take (head_size a.0.cluster_bits) ys ≡ take (head_size a.0.cluster_bits) xs =
        ap (λ n. take (head_size n) ys) bits ∙ same ∙ sym (ap (λ n. take (head_size n) xs) bits) in
        ap (λ b. if b then Err Short else read_with ys (fields_of ys)) enough
        ∙ ap (read_with ys) (fields_same xs ys (head_size h.cluster_bits) low same)
        ∙ ap (λ r. r >>= shaped_with ys) a.1
        ∙ ap (λ bytes. shape_of bytes a.0 >>= λ found. sized (with_format a.0 found)) head
        ∙ a.2

pub layer_header_same : (n capacity : ℕ) (s s' : ℕ → List ℕ) (h : Header) → header_of (file_of n s').head ≡ header_of (file_of n s).head
    → layer_header (file_of n s) capacity ≡ Ok h → layer_header (file_of n s') capacity ≡ Ok h
unfolding layer_header file_of
layer_header_same n capacity s s' h same is = ap (λ r. if nat_lt (512 * n) 512 then Err Short else layer_header_of capacity r) same ∙ is

-- the backing file's name lies in the head
name_within : (bytes : List ℕ) (h : Header) → header_of bytes ≡ Ok h → h.backing_file_offset ≢ 0 → h.backing_file_offset + h.backing_file_size ≤ length (take (head_size h.cluster_bits) bytes)
name_within bytes h e there =
    let at : ℕ = h.backing_file_offset in
    let size : ℕ = h.backing_file_size in
    let span : ℕ = head_size h.cluster_bits in
    let head : List ℕ = take span bytes in
    let apart : Bool = not (touches at size (span - 1024) && touches at size (span - 512)) in
    let name = second (at == 0) (is_name head span at size) (ne_eqb at 0 there) (kept bytes h e).1 in
    let all = first ((nat_le size 1023 && nat_le (at + size) (length head)) && apart) (is_id (last_part (take size (drop at head)))) name in
    let early = first (nat_le size 1023 && nat_le (at + size) (length head)) apart all in
    below (at + size) (length head) (after (nat_le size 1023) (nat_le (at + size) (length head)) early)
  where
    first : (a b : Bool) → (a && b) ≡ true → a ≡ true
    first true b e = refl
    first false b e = absurd cc

    after : (a b : Bool) → (a && b) ≡ true → b ≡ true
    after true b e = e
    after false b e = absurd cc

    second : (a b : Bool) → a ≡ false → (a || b) ≡ true → b ≡ true
    second true b e f = absurd cc
    second false b e f = f

    below : (a b : ℕ) → nat_le a b ≡ true → a ≤ b
    below a b e = grind (arith, nat_tests)

-- ---- of a file

module _ (n p capacity : ℕ) (s s' : ℕ → List ℕ) (h : Header) (are : AreSectors n s) (is : layer_header (file_of n s) capacity ≡ Ok h) where
  abbrev c : ℕ
  c = 2 ^ h.cluster_bits

  abbrev q : ℕ
  q = 2 ^ (h.cluster_bits - 9)

  read : header_of (file_of n s).head ≡ Ok h
  read = header_read (file_of n s) capacity h is

  width : c ≡ 512 * q
  width = cluster_sectors h.cluster_bits (cluster_range h (read_without_fault (file_of n s).head h read)).0

  wide : 4096 ≤ c
  wide = pow-le-pow_right (omega arith) (cluster_range h (read_without_fault (file_of n s).head h read)).0

  long : (k : ℕ) → length (sector_in n s k) ≡ 512
  long k = go (cases_lt k n)
    where
      go : (k < n) ⊎ (n ≤ k) → length (sector_in n s k) ≡ 512
      go (inl lt) = let e : nat_lt k n ≡ true = grind (arith, nat_tests) in ap (λ b. length (if b then s k else replicate 512 0)) e ∙ are k lt
      go (inr le) = let e : nat_lt k n ≡ false = grind (arith, nat_tests) in ap (λ b. length (if b then s k else replicate 512 0)) e ∙ length-replicate {A = ℕ} 512 0

  abbrev count : ℕ
  count = min q 128

  size_is : head_size h.cluster_bits ≡ 512 * count
  size_is = go c q width
    where
      go : (c q : ℕ) → c ≡ 512 * q → min c 65536 ≡ 512 * min q 128
      go c q e = omega (arith, e)

  split : 128 ≡ count + (128 - count)
  split = go q
    where
      go : (q : ℕ) → 128 ≡ min q 128 + (128 - min q 128)
      go q = omega arith

  some_sectors : 8 ≤ count
  some_sectors = go c q width wide
    where
      go : (c q : ℕ) → c ≡ 512 * q → 4096 ≤ c → 8 ≤ min q 128
      go c q e le = omega (arith, e, le)

  head_front : (t : ℕ → List ℕ) → ((k : ℕ) → k < count → length (sector_in n t k) ≡ 512)
      → take (head_size h.cluster_bits) (file_of n t).head ≡ flat_map (sector_in n t) (range_with_len 0 count)
  unfolding file_of
  head_front t long =
      ap (λ m. take m (flat_map (sector_in n t) (range_with_len 0 128))) size_is
      ∙ ap (λ m. take (512 * count) (flat_map (sector_in n t) (range_with_len 0 m))) split
      ∙ front (sector_in n t) 0 count (128 - count) (λ k low lt. long k (omega (arith, lt)))

  module _ (same : (k : ℕ) → k < count → s' k ≡ s k) where
    sectors_same : (k : ℕ) → k < count → sector_in n s' k ≡ sector_in n s k
    sectors_same k lt = sector_same n k s s' (same k lt)

    long' : (k : ℕ) → k < count → length (sector_in n s' k) ≡ 512
    long' k lt = ap length (sectors_same k lt) ∙ long k

    head_long : 512 ≤ length (file_of n s').head
    head_long =
        let e = head_front s' long' in
        let f = front_length (sector_in n s') 0 count (λ k low lt. long' k (omega (arith, lt))) in
        let g = length-take (head_size h.cluster_bits) (file_of n s').head in
        let len : length (take (head_size h.cluster_bits) (file_of n s').head) ≡ 512 * count = ap length e ∙ f in
        go (head_size h.cluster_bits) count (length (file_of n s').head) (sym g ∙ len) some_sectors
      where
        go : (m count l : ℕ) → min m l ≡ 512 * count → 8 ≤ count → 512 ≤ l
        go m count l e le = omega (arith, e, le)

    front_kept : take (head_size h.cluster_bits) (file_of n s').head ≡ take (head_size h.cluster_bits) (file_of n s).head
    front_kept = head_front s' long' ∙ front_same (sector_in n s) (sector_in n s') 0 count (λ k low lt. sectors_same k (omega (arith, lt))) ∙ sym (head_front s (λ k lt. long k))

    pub header_front : layer_header (file_of n s') capacity ≡ Ok h
    header_front = layer_header_same n capacity s s' h (header_same (file_of n s).head (file_of n s').head h read head_long front_kept ∙ sym read) is

    -- the backing file's name lies in the first cluster
    pub parent_front : backing_id h (file_of n s').head ≡ backing_id h (file_of n s).head
    parent_front = go (h.backing_file_offset == 0) refl
      where
        go : (b : Bool) → (h.backing_file_offset == 0) ≡ b → backing_id h (file_of n s').head ≡ backing_id h (file_of n s).head
        go true e = ap (λ b. if b then None else id_of (last_part (take h.backing_file_size (drop h.backing_file_offset (file_of n s').head)))) e ∙ sym (ap (λ b. if b then None else id_of (last_part (take h.backing_file_size (drop h.backing_file_offset (file_of n s).head)))) e)
        go false e =
            let within = name_within (file_of n s).head h read (eqb-false h.backing_file_offset 0 e) in
            let within' : h.backing_file_offset + h.backing_file_size ≤ length (take (head_size h.cluster_bits) (file_of n s').head) = subst (λ (x : List ℕ). h.backing_file_offset + h.backing_file_size ≤ length x) (sym front_kept) within in
            ap (λ x. if h.backing_file_offset == 0 then None else id_of (last_part x))
            (sym (part_of (head_size h.cluster_bits) h.backing_file_offset h.backing_file_size (file_of n s').head within')
            ∙ ap (λ x. take h.backing_file_size (drop h.backing_file_offset x)) front_kept
            ∙ part_of (head_size h.cluster_bits) h.backing_file_offset h.backing_file_size (file_of n s).head within)

  -- a cluster other than the first one changes
  first_kept : p % c ≡ 0 → p ≢ 0 → SameOutside p c s s' → (k : ℕ) → k < count → s' k ≡ s k
  first_kept even some same k lt = same k (inl (below p c q k (whole_sector p c q width even) width behind lt))
    where
      one : p / c ≢ 0
      one e = let z : p ≡ 0 * c = whole_place p c even ∙ ap (λ k. k * c) e in some (omega (arith, z))

      behind : c ≤ p
      behind =
          let rows : 1 * c ≤ p / c * c = mul-le-mul_right c (go (p / c) one) in
          let at = whole_place p c even in
          omega (arith, rows, at)
        where
          go : (k : ℕ) → k ≢ 0 → 1 ≤ k
          go k e = omega (arith, e)

      below : (p c' q' k : ℕ) → p % 512 ≡ 0 → c' ≡ 512 * q' → c' ≤ p → k < min q' 128 → k < p / 512
      below p c' q' k sectors e le lt = omega (arith, sectors, e, le, lt)

  pub header_kept : p % c ≡ 0 → p ≢ 0 → SameOutside p c s s' → layer_header (file_of n s') capacity ≡ Ok h
  header_kept even some same = header_front (first_kept even some same)

  pub parent_kept : p % c ≡ 0 → p ≢ 0 → SameOutside p c s s' → backing_id h (file_of n s').head ≡ backing_id h (file_of n s).head
  parent_kept even some same = parent_front (first_kept even some same)
