-- A head in which some fields are others, between two bytes that are 0: it is read again, and its backing file stays.
use Rattle.std.proofs.Common.{◌≡◌, ◌≢◌, ◌⊎◌, inl, inr, ℕ, zero, suc, ◌+◌, ◌-◌, ◌*◌, ◌^◌, ◌<◌, ◌≤◌, min, Bool, true, false, eqb, List, length, get_or, take, drop, Option, Some, None, Ok, refl, sym, ap, ◌∙◌, arith, nat_lt, eqb-true}
use Rattle.std.specs.Prelude.{◌==◌, ◌&&◌, ◌||◌, not, nat_le, if◌then◌else◌}
use Rattle.std.specs.Option.{is_some, option_map}
use Rattle.std.specs.Char.{to_ascii_lowercase}
use Rattle.std.proofs.lemmas.Bool.{cases_lt}
use Rattle.std.proofs.lemmas.Bool.Decides.{nat_tests}
use Rattle.std.proofs.lemmas.List.{get_or-drop, get_or-map, get_or-take, length-drop, length-take}
use Rattle.uuid.specs.Text.{parsed, parsed_hyphenated}
use Rattle.sd_names.specs.Id.{id_of, id_text}
use Rattle.sd_names.specs.declared.id.Id.{Id}
use Rattle.sd_names.proofs.IdLemmas.{id_text-apart, reads_from_parsed}
use Rattle.qcow_format.specs.Bytes.{number}
use Rattle.qcow_format.specs.declared.header.Header.{Header}
use Rattle.qcow_format.specs.Extension.{end_after, extensions_at, extensions_up_to}
use Rattle.qcow_format.specs.Format.{last_format}
use Rattle.qcow_format.specs.Header.{fields_of, fine_fields, has_aligned_tables, has_length, has_name, head_size, header_of, is_closed, mapped, shape_of, with_format}
use Rattle.qcow_format.specs.Name.{backing_id, is_id, is_name, last_part, touches}
use Rattle.qcow_format.proofs.Kept.{part_of}
use Rattle.qcow_format.proofs.NameLemmas.{last_part_is}
use Rattle.layer_heading.proofs.Bytes.{Agree, number_agrees, part_agrees}
use Rattle.layer_heading.proofs.Parts.{Formats, Parts, Shaped, end_in, parts, read_with, shape_again, shaped}
use Rattle.layer_heading.proofs.Walks.{end_behind, walk_same}

-- ---- the last part of a name

-- where it begins
pub record Split (xs : List ℕ) : Type 0 where
  pub start : ℕ
  pub inside : start ≤ length xs
  pub behind : (k : ℕ) → start ≤ k → k < length xs → not (eqb (get_or xs k 0) 47) ≡ true
  pub slash : 0 < start → get_or xs (start - 1) 0 ≡ 47

split_up_to : (xs : List ℕ) (n : ℕ) → n ≤ length xs → ((k : ℕ) → n ≤ k → k < length xs → not (eqb (get_or xs k 0) 47) ≡ true) → Split xs
split_up_to xs zero le none = record { start = 0; inside = le; behind = none; slash = λ lt. absurd (omega (arith, lt)) }
split_up_to xs (suc n) le none = go (eqb (get_or xs n 0) 47) refl (split_up_to xs n)
  where
    go : (b : Bool) → eqb (get_or xs n 0) 47 ≡ b → (n ≤ length xs → ((k : ℕ) → n ≤ k → k < length xs → not (eqb (get_or xs k 0) 47) ≡ true) → Split xs) → Split xs
    go true t rest = record { start = suc n; inside = le; behind = none; slash = λ lt. let back : suc n - 1 ≡ n = omega arith in ap (λ j. get_or xs j 0) back ∙ eqb-true (get_or xs n 0) 47 t }
    go false t rest = rest (omega (arith, le)) (λ k ge lt. at k ge lt (cases_lt n k))
      where
        at : (k : ℕ) → n ≤ k → k < length xs → (n < k) ⊎ (k ≤ n) → not (eqb (get_or xs k 0) 47) ≡ true
        at k ge lt (inl above) = none k (omega (arith, above)) lt
        at k ge lt (inr low) = let same : k ≡ n = omega (arith, ge, low) in ap (λ j. not (eqb (get_or xs j 0) 47)) same ∙ ap not t

split : (xs : List ℕ) → Split xs
split xs = split_up_to xs (length xs) (omega arith) (λ k ge lt. absurd (omega (arith, ge, lt)))

part_from : (xs : List ℕ) (p : Split xs) → take (length xs - p.start) (drop p.start xs) ≡ last_part xs
part_from xs p = last_part_is xs p.start p.inside p.behind p.slash

-- a name of which the last part and what stands before it are the same has the same last part
last_same : (xs ys : List ℕ) → length ys ≡ length xs → (p : Split xs) → ((k : ℕ) → p.start ≤ k + 1 → k < length xs → get_or ys k 0 ≡ get_or xs k 0) → last_part ys ≡ last_part xs
last_same xs ys len p same =
    sym (last_part_is ys p.start (omega (arith, len, p.inside))
    (λ k ge lt. ap (λ b. not (eqb b 47)) (same k (omega (arith, ge)) (omega (arith, lt, len))) ∙ p.behind k ge (omega (arith, lt, len)))
    (λ some. same (p.start - 1) (omega (arith, some)) (omega (arith, some, p.inside)) ∙ p.slash some))
    ∙ ap (λ n. take (n - p.start) (drop p.start ys)) len
    ∙ part_agrees xs ys p.start (length xs) p.start (length xs - p.start) len (λ k ge lt. same k (omega (arith, ge)) lt) (omega arith) (omega (arith, p.inside))
    ∙ part_from xs p

-- an identifier's text has 36 bytes, none of which is 0
id_bytes : (text : List ℕ) → is_id text ≡ true → (length text ≡ 36) × ((k : ℕ) → k < 36 → get_or text k 0 ≢ 0)
unfolding id_of
id_bytes text is = go (length text == 36) refl (parsed_hyphenated text) refl is
  where
    made : List ℕ → Id
    made bytes = record { 0 = bytes }

    apart : (a b : ℕ) → to_ascii_lowercase a ≡ b → (47 < b) ⊎ (b ≡ 45) → a ≢ 0
    apart a b low (inl large) none = let e : 0 ≡ b = sym (ap to_ascii_lowercase none) ∙ low in omega (arith, e, large)
    apart a b low (inr mark) none = let e : 0 ≡ b = sym (ap to_ascii_lowercase none) ∙ low in omega (arith, e, mark)

    go : (b : Bool) → (length text == 36) ≡ b → (o : Option (List ℕ)) → parsed_hyphenated text ≡ o → is_some (if b then option_map made o else None) ≡ true
        → (length text ≡ 36) × ((k : ℕ) → k < 36 → get_or text k 0 ≢ 0)
    go true t None p e = absurd cc
    go true t (Some u) p e =
        let long : length text ≡ 36 = eqb-true (length text) 36 t in
        let whole : parsed text ≡ parsed_hyphenated text = rw long refl in
        let reads = reads_from_parsed text u long (sym (whole ∙ p)) in (
          long,
          λ k lt. apart (get_or text k 0) (get_or (id_text u) k 0) (sym (get_or-map to_ascii_lowercase text k 0 0 (omega (arith, lt, long))) ∙ ap (λ (l : List ℕ). get_or l k 0) reads) (id_text-apart u k lt),
        )
    go false t o p e = absurd cc

-- ---- fields of which a byte is 0

four_bytes : (at : ℕ) (xs : List ℕ) → number 4 at xs ≡ get_or (drop at xs) 0 0 * 16_777_216 + (get_or (drop at xs) 1 0 * 65_536 + (get_or (drop at xs) 2 0 * 256 + get_or (drop at xs) 3 0))
unfolding number
four_bytes at xs = sum (get_or (drop at xs) 0 0) (get_or (drop at xs) 1 0) (get_or (drop at xs) 2 0) (get_or (drop at xs) 3 0)
  where
    sum : (a b c d : ℕ) → a * 256 ^ 3 + (b * 256 ^ 2 + (c * 256 ^ 1 + (d * 256 ^ 0 + 0))) ≡ a * 16_777_216 + (b * 65_536 + (c * 256 + d))
    sum a b c d = omega arith

-- the last byte of a number of 4 bytes that is 0
pub last_zero : (at : ℕ) (xs : List ℕ) → number 4 at xs ≡ 0 → get_or xs (at + 3) 0 ≡ 0
last_zero at xs e = sym (get_or-drop at xs 3 0) ∙ low (get_or (drop at xs) 0 0) (get_or (drop at xs) 1 0) (get_or (drop at xs) 2 0) (get_or (drop at xs) 3 0) (sym (four_bytes at xs) ∙ e)
  where
    low : (a b c d : ℕ) → a * 16_777_216 + (b * 65_536 + (c * 256 + d)) ≡ 0 → d ≡ 0
    low a b c d e = omega (arith, e)

-- the first byte of one below 256 ^ 3
pub first_zero : (at : ℕ) (xs : List ℕ) → number 4 at xs < 16_777_216 → get_or xs (at + 0) 0 ≡ 0
first_zero at xs lt = sym (get_or-drop at xs 0 0) ∙ high (get_or (drop at xs) 0 0) (get_or (drop at xs) 1 0) (get_or (drop at xs) 2 0) (get_or (drop at xs) 3 0) (omega (arith, four_bytes at xs, lt))
  where
    high : (a b c d : ℕ) → a * 16_777_216 + (b * 65_536 + (c * 256 + d)) < 16_777_216 → a ≡ 0
    high a b c d lt = omega (arith, lt)

-- ---- the head

-- two headers whose extensions, tables and names stand in the same places
pub record IsAlike (h next : Header) : Type 0 where
  pub long : has_length next ≡ has_length h
  pub aligned : has_aligned_tables next ≡ has_aligned_tables h
  pub length : next.header_length ≡ h.header_length
  pub bits : next.cluster_bits ≡ h.cluster_bits
  pub name : (head : List ℕ) → has_name head next ≡ has_name head h
  pub id : (head : List ℕ) → backing_id next head ≡ backing_id h head

-- the fields of a head are those of a header, with the backing format that was found
pub record HasFields (bytes : List ℕ) (next : Header) (found : Formats) : Type 0 where
  pub fields : Header
  pub read : fields_of bytes ≡ fields
  pub fine : fine_fields fields ≡ Ok fields
  pub whole : with_format fields found ≡ next
  pub fits : nat_lt (mapped fields) fields.size ≡ false

module _ (h next : Header) (bytes bytes' : List ℕ) (is : header_of bytes ≡ Ok h) (alike : IsAlike h next) (has : HasFields bytes' next (parts bytes h is).found) (len : length bytes' ≡ length bytes)
    (low high first second : ℕ) (before : first < low) (after : high ≤ second) (narrow : second ≤ first + 36) (zero_before : get_or bytes first 0 ≡ 0) (zero_after : get_or bytes second 0 ≡ 0)
    (early : high ≤ h.header_length) (same : (k : ℕ) → (k < low) ⊎ (high ≤ k) → get_or bytes' k 0 ≡ get_or bytes k 0) where
  abbrev span : ℕ
  span = head_size h.cluster_bits

  abbrev xs : List ℕ
  xs = take span bytes

  abbrev ys : List ℕ
  ys = take span bytes'

  abbrev old : Parts bytes h
  old = parts bytes h is

  shape : Shaped xs h old.found
  shape = shaped xs h old.found old.shape

  long : length ys ≡ length xs
  long = length-take span bytes' ∙ ap (λ n. min span n) len ∙ sym (length-take span bytes)

  head_same : (k : ℕ) → k < span → (k < low) ⊎ (high ≤ k) → get_or ys k 0 ≡ get_or xs k 0
  head_same k lt side = get_or-take span bytes' k 0 lt ∙ same k side ∙ sym (get_or-take span bytes k 0 lt)

  behind : (from to : ℕ) → high ≤ from → to ≤ span → Agree xs ys from to
  behind from to above fits k ge lt = head_same k (omega (arith, lt, fits)) (inr (omega (arith, ge, above)))

  abbrev end : ℕ
  end = end_in xs h

  end_in_span : end + 8 ≤ span
  end_in_span = go (nat_le (end + 8) (length xs)) (number 4 end xs == 0) (nat_le (end + 8 + 1024) span) refl shape.closed
    where
      within : (a b : ℕ) → nat_le (a + 1024) b ≡ true → a ≤ b
      within a b e = grind (arith, nat_tests)

      go : (a b c : Bool) → nat_le (end + 8 + 1024) span ≡ c → (a && b && c) ≡ true → end + 8 ≤ span
      go true true true t e = within (end + 8) span t
      go true true false t e = absurd cc
      go true false c t e = absurd cc
      go false b c t e = absurd cc

  -- the name
  abbrev offset : ℕ
  offset = h.backing_file_offset

  abbrev size : ℕ
  size = h.backing_file_size

  abbrev name : List ℕ
  name = take size (drop offset xs)

  abbrev name' : List ℕ
  name' = take size (drop offset ys)

  module _ (named : is_name xs span offset size ≡ true) where
    facts : (offset + size ≤ length xs) × (is_id (last_part name) ≡ true)
    facts = go (nat_le size 1023) (nat_le (offset + size) (length xs)) (not (touches offset size (span - 1024) && touches offset size (span - 512))) (is_id (last_part name)) refl named
      where
        within : (a b : ℕ) → nat_le a b ≡ true → a ≤ b
        within a b e = grind (arith, nat_tests)

        go : (a b c d : Bool) → nat_le (offset + size) (length xs) ≡ b → (a && b && c && d) ≡ true → (offset + size ≤ length xs) × (d ≡ true)
        go true true true true t e = (within (offset + size) (length xs) t, refl)
        go true true true false t e = absurd cc
        go true true false d t e = absurd cc
        go true false c d t e = absurd cc
        go false b c d t e = absurd cc

    in_span : offset + size ≤ span
    in_span = omega (arith, facts.0, length-take span bytes)

    name_long : length name ≡ size
    name_long = omega (arith, length-take size (drop offset xs), length-drop offset xs, facts.0)

    names_long : length name' ≡ length name
    names_long = omega (arith, length-take size (drop offset ys), length-drop offset ys, facts.0, long, name_long)

    p : Split name
    p = split name

    id_is : (length (last_part name) ≡ 36) × ((k : ℕ) → k < 36 → get_or (last_part name) k 0 ≢ 0)
    id_is = id_bytes (last_part name) facts.1

    wide : p.start + 36 ≡ size
    wide = omega (arith, ap length (part_from name p) ∙ id_is.0, length-take (length name - p.start) (drop p.start name), length-drop p.start name, name_long, p.inside)

    nonzero : (k : ℕ) → p.start ≤ k → k < size → get_or name k 0 ≢ 0
    nonzero k ge lt none =
        let back : p.start + (k - p.start) ≡ k = omega (arith, ge) in
        id_is.1 (k - p.start) (omega (arith, ge, lt, wide))
        (sym (ap (λ (l : List ℕ). get_or l (k - p.start) 0) (part_from name p))
        ∙ get_or-take (length name - p.start) (drop p.start name) (k - p.start) 0 (omega (arith, ge, lt, name_long))
        ∙ get_or-drop p.start name (k - p.start) 0 ∙ ap (λ j. get_or name j 0) back ∙ none)

    in_name : (k : ℕ) → k < size → get_or name k 0 ≡ get_or bytes (offset + k) 0
    in_name k lt = get_or-take size (drop offset xs) k 0 lt ∙ get_or-drop offset xs k 0 ∙ get_or-take span bytes (offset + k) 0 (omega (arith, lt, in_span))

    not_here : (z : ℕ) → get_or bytes z 0 ≡ 0 → offset + p.start ≤ z → z < offset + size → ⊥
    not_here z none ge lt =
        let back : offset + (z - offset) ≡ z = omega (arith, ge) in
        nonzero (z - offset) (omega (arith, ge)) (omega (arith, ge, lt)) (in_name (z - offset) (omega (arith, ge, lt)) ∙ ap (λ j. get_or bytes j 0) back ∙ none)

    -- its last part doesn't stand in the fields, as a byte before them and one behind them are 0
    apart : (k : ℕ) → p.start ≤ k + 1 → k < size → (offset + k < low) ⊎ (high ≤ offset + k)
    apart k ge lt = go (cases_lt (offset + k) low) (cases_lt (offset + k) high)
      where
        which : low ≤ offset + k → offset + k < high → (first < offset + p.start) ⊎ (offset + p.start ≤ first) → ⊥
        which above below (inr early') = not_here first zero_before early' (omega (arith, before, above, lt))
        which above below (inl late) = not_here second zero_after (omega (arith, after, below, ge)) (omega (arith, late, narrow, wide))

        go : (offset + k < low) ⊎ (low ≤ offset + k) → (offset + k < high) ⊎ (high ≤ offset + k) → (offset + k < low) ⊎ (high ≤ offset + k)
        go (inl under) b = inl under
        go (inr above) (inr over) = inr over
        go (inr above) (inl below) = absurd (which above below (cases_lt first (offset + p.start)))

    last_kept : last_part name' ≡ last_part name
    last_kept = last_same name name' names_long p (λ k ge lt. byte k ge (omega (arith, lt, name_long)))
      where
        byte : (k : ℕ) → p.start ≤ k + 1 → k < size → get_or name' k 0 ≡ get_or name k 0
        byte k ge lt =
            get_or-take size (drop offset ys) k 0 lt ∙ get_or-drop offset ys k 0 ∙ head_same (offset + k) (omega (arith, lt, in_span)) (apart k ge lt)
            ∙ sym (get_or-take size (drop offset xs) k 0 lt ∙ get_or-drop offset xs k 0)

    name_again : is_name ys span offset size ≡ true
    name_again =
        ap (λ n. nat_le size 1023 && nat_le (offset + size) n && not (touches offset size (span - 1024) && touches offset size (span - 512)) && is_id (last_part name')) long
        ∙ ap (λ part. nat_le size 1023 && nat_le (offset + size) (length xs) && not (touches offset size (span - 1024) && touches offset size (span - 512)) && is_id part) last_kept
        ∙ named

    id_again : id_of (last_part (take size (drop offset bytes'))) ≡ id_of (last_part (take size (drop offset bytes)))
    id_again = ap (λ part. id_of (last_part part)) (sym (part_of span offset size bytes' (omega (arith, facts.0, long)))) ∙ ap id_of last_kept ∙ ap (λ part. id_of (last_part part)) (part_of span offset size bytes facts.0)

  named_or_not : (offset == 0) ≡ false → is_name xs span offset size ≡ true
  named_or_not t = go (offset == 0) t shape.named
    where
      go : (b : Bool) → b ≡ false → (b || is_name xs span offset size) ≡ true → is_name xs span offset size ≡ true
      go true t e = absurd cc
      go false t e = e

  name_kept : has_name ys h ≡ true
  name_kept = go (offset == 0) refl
    where
      go : (b : Bool) → (offset == 0) ≡ b → (offset == 0 || is_name ys span offset size) ≡ true
      go true t = ap (λ b. b || is_name ys span offset size) t
      go false t = ap (λ b. b || is_name ys span offset size) t ∙ name_again (named_or_not t)

  pub parent_same : backing_id next bytes' ≡ backing_id h bytes
  parent_same = alike.id bytes' ∙ go (offset == 0) refl
    where
      go : (b : Bool) → (offset == 0) ≡ b → (if b then None else id_of (last_part (take size (drop offset bytes')))) ≡ (if b then None else id_of (last_part (take size (drop offset bytes))))
      go true t = refl
      go false t = id_again (named_or_not t)

  pub read_next : header_of bytes' ≡ Ok next
  read_next =
      let walked = walk_same xs ys long (length xs) h.header_length (behind h.header_length (end + 8) early end_in_span) in
      let exts : extensions_at ys h.header_length ≡ extensions_at xs h.header_length = ap (λ n. extensions_up_to n ys h.header_length) long ∙ walked.same in
      let mark = number_agrees xs ys h.header_length (end + 8) 4 end (behind h.header_length (end + 8) early end_in_span) (end_behind (length xs) xs h.header_length) (omega arith) in
      let same_span : take (head_size next.cluster_bits) bytes' ≡ ys = ap (λ b. take (head_size b) bytes') alike.bits in
      read_with bytes' next old.found has.fields has.read has.fine has.whole has.fits
      (omega (arith, len, old.enough))
      (shape_in same_span
      (ap (λ n. last_format ys (extensions_at ys n)) alike.length ∙ ap (last_format ys) exts ∙ walked.formats ∙ shape.formats)
      (ap (λ n. end_after n (extensions_at ys n)) alike.length ∙ ap (end_after h.header_length) exts)
      (ap (λ n. nat_le (end + 8) n && number 4 end ys == 0 && nat_le (end + 8 + 1024) span) long
      ∙ ap (λ n. nat_le (end + 8) (length xs) && n == 0 && nat_le (end + 8 + 1024) span) mark
      ∙ shape.closed))
    where
      shape_in : take (head_size next.cluster_bits) bytes' ≡ ys → last_format ys (extensions_at ys next.header_length) ≡ Ok old.found → end_in ys next ≡ end → is_closed ys span end ≡ true
          → shape_of (take (head_size next.cluster_bits) bytes') next ≡ Ok old.found
      shape_in same_span formats ends closed =
          ap (λ zs. shape_of zs next) same_span
          ∙ shape_again ys next end old.found formats ends (alike.long ∙ shape.long) (alike.aligned ∙ shape.aligned) (alike.name ys ∙ name_kept)
          (ap (λ b. is_closed ys (head_size b) end) alike.bits ∙ closed)
