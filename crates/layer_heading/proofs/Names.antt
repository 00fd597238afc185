-- A head in which a sector near its end is written.
use Rattle.std.proofs.Common.{◌≡◌, ◌⊎◌, inl, inr, ℕ, ◌+◌, ◌-◌, ◌^◌, ◌<◌, ◌≤◌, min, Bool, true, false, List, length, get_or, take, drop, None, Ok, refl, sym, ap, ◌∙◌, arith, nat_lt}
use Rattle.std.specs.Prelude.{◌==◌, ◌&&◌, ◌||◌, not, nat_le, if◌then◌else◌}
use Rattle.std.proofs.Math.Nat.{pow-le-pow_right}
use Rattle.std.proofs.lemmas.Bool.{cases_lt}
use Rattle.std.proofs.lemmas.Bool.Decides.{nat_tests}
use Rattle.std.proofs.lemmas.List.{get_or-take, length-take}
use Rattle.sd_names.specs.Id.{id_of}
use Rattle.qcow_format.specs.Bytes.{number}
use Rattle.qcow_format.specs.declared.header.Header.{Header}
use Rattle.qcow_format.specs.Extension.{end_after, extensions_at, extensions_up_to}
use Rattle.qcow_format.specs.Format.{last_format}
use Rattle.qcow_format.specs.Header.{fields_of, fields_of_version_2, has_name, head_size, header_of}
use Rattle.qcow_format.specs.Name.{backing_id, is_id, is_name, last_part, touches}
use Rattle.qcow_format.proofs.Kept.{cluster_range, part_of, read_without_fault}
use Rattle.layer_heading.specs.Rebased.{is_touched}
use Rattle.layer_heading.proofs.Bytes.{Agree, number_agrees, part_agrees}
use Rattle.layer_heading.proofs.Parts.{Parts, Shaped, end_in, parts, read_again, shape_again, shaped}
use Rattle.layer_heading.proofs.Walks.{end_behind, walk_same}

-- the fields are read from the first 104 bytes
fields_same : (xs ys : List ℕ) → Agree xs ys 0 104 → fields_of ys ≡ fields_of xs
unfolding fields_of fields_of_version_2
fields_same xs ys agree =
    rw (
      n 4 0 (omega arith),
      n 4 4 (omega arith),
      n 8 8 (omega arith),
      n 4 16 (omega arith),
      n 4 20 (omega arith),
      n 8 24 (omega arith),
      n 4 32 (omega arith),
      n 4 36 (omega arith),
      n 8 40 (omega arith),
      n 8 48 (omega arith),
      n 4 56 (omega arith),
      n 4 60 (omega arith),
      n 8 64 (omega arith),
      n 8 72 (omega arith),
      n 8 80 (omega arith),
      n 8 88 (omega arith),
      n 4 96 (omega arith),
      n 4 100 (omega arith),
    ) refl
  where
    n : (w at : ℕ) → at + w ≤ 104 → number w at ys ≡ number w at xs
    n w at le = number_agrees xs ys 0 104 w at agree (omega arith) le

module _ (h : Header) (bytes bytes' : List ℕ) (p : ℕ) (is : header_of bytes ≡ Ok h) (len : length bytes' ≡ length bytes)
    (low : head_size h.cluster_bits ≤ p + 1024) (untouched : is_touched h p ≡ false)
    (same : (k : ℕ) → (k < p) ⊎ (p + 512 ≤ k) → get_or bytes' k 0 ≡ get_or bytes k 0) where
  abbrev span : ℕ
  span = head_size h.cluster_bits

  abbrev xs : List ℕ
  xs = take span bytes

  abbrev ys : List ℕ
  ys = take span bytes'

  old : Parts bytes h
  old = parts bytes h is

  shape : Shaped xs h old.found
  shape = shaped xs h old.found old.shape

  wide : 4096 ≤ span
  wide = let least : 2 ^ 12 ≤ 2 ^ h.cluster_bits = pow-le-pow_right (omega arith) (cluster_range h (read_without_fault bytes h is)).0 in omega (arith, least)

  long : length ys ≡ length xs
  long = length-take span bytes' ∙ ap (λ n. min span n) len ∙ sym (length-take span bytes)

  before : (from to : ℕ) → to ≤ p → to ≤ span → Agree xs ys from to
  before from to below fits k ge lt =
      get_or-take span bytes' k 0 (omega (arith, lt, fits)) ∙ same k (inl (omega (arith, lt, below))) ∙ sym (get_or-take span bytes k 0 (omega (arith, lt, fits)))

  abbrev end : ℕ
  end = end_in xs h

  closed_parts : (nat_le (end + 8) (length xs) ≡ true) × (nat_le (end + 8 + 1024) span ≡ true)
  closed_parts = go (nat_le (end + 8) (length xs)) (number 4 end xs == 0) (nat_le (end + 8 + 1024) span) shape.closed
    where
      go : (a b c : Bool) → (a && b && c) ≡ true → (a ≡ true) × (c ≡ true)
      go true true c e = (refl, e)
      go true false c e = absurd cc
      go false b c e = absurd cc

  end_low : end + 8 ≤ p
  end_low = let le = within (end + 8 + 1024) span p closed_parts.1 low in omega (arith, le)
    where
      within : (a b p : ℕ) → nat_le a b ≡ true → b ≤ p + 1024 → a ≤ p + 1024
      within a b p e le = grind (arith, nat_tests)

  end_in_span : end + 8 ≤ span
  end_in_span = within (end + 8) span closed_parts.1
    where
      within : (a b : ℕ) → nat_le (a + 1024) b ≡ true → a ≤ b
      within a b e = grind (arith, nat_tests)

  -- the name's bytes
  apart : (offset size : ℕ) → touches offset size p ≡ false → (p + 512 ≤ offset) ⊎ (offset + size ≤ p)
  apart offset size e = go (cases_lt offset (p + 512))
    where
      second : (b : Bool) → nat_lt p (offset + size) ≡ b → offset < p + 512 → (nat_lt offset (p + 512) && nat_lt p (offset + size)) ≡ false → offset + size ≤ p
      second b t lt e = grind (arith, nat_tests)

      go : (offset < p + 512) ⊎ (p + 512 ≤ offset) → (p + 512 ≤ offset) ⊎ (offset + size ≤ p)
      go (inl lt) = inr (second (nat_lt p (offset + size)) refl lt e)
      go (inr le) = inl le

  name_agrees : (offset size : ℕ) → touches offset size p ≡ false → offset + size ≤ span → Agree xs ys offset (offset + size)
  name_agrees offset size e fits k ge lt =
      get_or-take span bytes' k 0 (omega (arith, lt, fits)) ∙ same k (side (apart offset size e)) ∙ sym (get_or-take span bytes k 0 (omega (arith, lt, fits)))
    where
      side : (p + 512 ≤ offset) ⊎ (offset + size ≤ p) → (k < p) ⊎ (p + 512 ≤ k)
      side (inl le) = inr (omega (arith, le, ge))
      side (inr le) = inl (omega (arith, le, lt))

  abbrev offset : ℕ
  offset = h.backing_file_offset

  abbrev size : ℕ
  size = h.backing_file_size

  -- where there is a name
  name_part : (offset == 0) ≡ false → is_name xs span offset size ≡ true → take size (drop offset ys) ≡ take size (drop offset xs)
  name_part some e =
      let free : touches offset size p ≡ false = sym (ap (λ b. not b && touches offset size p) some) ∙ untouched in
      let fits = fits_in (nat_le size 1023) (nat_le (offset + size) (length xs)) (not (touches offset size (span - 1024) && touches offset size (span - 512))) (is_id (last_part (take size (drop offset xs)))) refl e in
      part_agrees xs ys offset (offset + size) offset size long (name_agrees offset size free (omega (arith, fits, length-take span bytes))) (omega arith) (omega arith)
    where
      fits_in : (a b c d : Bool) → nat_le (offset + size) (length xs) ≡ b → (a && b && c && d) ≡ true → offset + size ≤ length xs
      fits_in true true c d t e = grind (arith, nat_tests)
      fits_in true false c d t e = absurd cc
      fits_in false b c d t e = absurd cc

  name_kept : has_name ys h ≡ true
  name_kept = go (offset == 0) refl shape.named
    where
      go : (b : Bool) → (offset == 0) ≡ b → (offset == 0 || is_name xs span offset size) ≡ true → (offset == 0 || is_name ys span offset size) ≡ true
      go true t e = ap (λ b. b || is_name ys span offset size) t
      go false t e =
          let name : is_name xs span offset size ≡ true = sym (ap (λ b. b || is_name xs span offset size) t) ∙ e in
          ap (λ b. b || is_name ys span offset size) t
          ∙ ap (λ n. nat_le size 1023 && nat_le (offset + size) n && not (touches offset size (span - 1024) && touches offset size (span - 512)) && is_id (last_part (take size (drop offset ys)))) long
          ∙ ap (λ part. nat_le size 1023 && nat_le (offset + size) (length xs) && not (touches offset size (span - 1024) && touches offset size (span - 512)) && is_id (last_part part)) (name_part t name)
          ∙ name

  pub names_written : header_of bytes' ≡ Ok h
  names_written =
      let walked = walk_same xs ys long (length xs) h.header_length (before h.header_length (end + 8) end_low end_in_span) in
      let exts : extensions_at ys h.header_length ≡ extensions_at xs h.header_length = ap (λ n. extensions_up_to n ys h.header_length) long ∙ walked.same in
      let mark = number_agrees xs ys h.header_length (end + 8) 4 end (before h.header_length (end + 8) end_low end_in_span) (end_behind (length xs) xs h.header_length) (omega arith) in
      read_again bytes bytes' h old
      (fields_same bytes bytes' (λ k ge lt. same k (inl (omega (arith, lt, low, wide)))))
      (omega (arith, len, old.enough))
      (shape_again ys h end old.found (ap (last_format ys) exts ∙ walked.formats ∙ shape.formats) (ap (end_after h.header_length) exts) shape.long shape.aligned name_kept
      (ap (λ n. nat_le (end + 8) n && number 4 end ys == 0 && nat_le (end + 8 + 1024) span) long
      ∙ ap (λ n. nat_le (end + 8) (length xs) && n == 0 && nat_le (end + 8 + 1024) span) mark
      ∙ shape.closed))

  pub parent_kept : backing_id h bytes' ≡ backing_id h bytes
  parent_kept = go (offset == 0) refl
    where
      named_in : (b : Bool) → b ≡ false → (b || is_name xs span offset size) ≡ true → is_name xs span offset size ≡ true
      named_in true t e = absurd cc
      named_in false t e = e

      fits_in : (a b c d : Bool) → nat_le (offset + size) (length xs) ≡ b → (a && b && c && d) ≡ true → offset + size ≤ length xs
      fits_in true true c d t e = grind (arith, nat_tests)
      fits_in true false c d t e = absurd cc
      fits_in false b c d t e = absurd cc

      go : (b : Bool) → (offset == 0) ≡ b → (if b then None else id_of (last_part (take size (drop offset bytes')))) ≡ (if b then None else id_of (last_part (take size (drop offset bytes))))
      go true t = refl
      go false t =
          let name = named_in (offset == 0) t shape.named in
          let fits = fits_in (nat_le size 1023) (nat_le (offset + size) (length xs)) (not (touches offset size (span - 1024) && touches offset size (span - 512))) (is_id (last_part (take size (drop offset xs)))) refl name in
          ap (λ part. id_of (last_part part)) (sym (part_of span offset size bytes' (omega (arith, fits, long))) ∙ name_part t name ∙ part_of span offset size bytes fits)
