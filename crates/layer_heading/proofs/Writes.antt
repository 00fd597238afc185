-- A head whose first sector is written with another header.
use Rattle.std.proofs.Common.{◌≡◌, ◌⊎◌, inl, inr, ℕ, ◌+◌, ◌-◌, ◌%◌, ◌^◌, ◌<◌, ◌≤◌, Bool, true, false, cond, eqb, List, ◌++◌, length, get_or, take, drop, Option, Some, None, Ok, refl, sym, ap, ◌∙◌, subst, arith, eqb-true}
use Rattle.std.specs.Prelude.{◌==◌, ◌&&◌, ◌||◌, nat_le, IfSome}
use Rattle.std.specs.Option.{is_some}
use Rattle.std.proofs.Math.Nat.{pow-le-pow_right}
use Rattle.std.proofs.lemmas.Bool.{cases_lt}
use Rattle.std.proofs.lemmas.Bool.Decides.{nat_tests}
use Rattle.std.proofs.lemmas.List.{append_assoc, drop-drop, drop_at, get_or-take, get_or_append_left, length-append, length-take}
use Rattle.std.proofs.Math.Seq.{get_or-append_right}
use Rattle.byteorder.specs.Endian.{big_number}
use Rattle.sd_names.specs.declared.kinds.Format.{Format}
use Rattle.sd_names.specs.declared.kinds.Format.TheVariants.{Raw, Cow}
use Rattle.qcow_format.specs.Bytes.{bytes_of, number, put}
use Rattle.qcow_format.specs.declared.header.Header.{Header}
use Rattle.qcow_format.specs.Numbers.{backing_format}
use Rattle.qcow_format.specs.Extension.{end_after, extensions_at, extensions_up_to}
use Rattle.qcow_format.specs.Format.{last_format}
use Rattle.qcow_format.specs.Header.{has_name, head_size, header_of, shape_of, with_format}
use Rattle.qcow_format.specs.Written.{IsHeader, format_bytes, put_fields, put_format, puts, version_2_table, version_3_table, written}
use Rattle.qcow_format.proofs.Again.{header_again, length-put_fields, stand_2, stand_3, tests}
use Rattle.qcow_format.proofs.Kept.{cluster_range, part_of}
use Rattle.qcow_format.proofs.Put.{get_or-put_before, get_or-put_behind, length-format_bytes, length-put, number-same}
use Rattle.qcow_format.proofs.Table.{length-puts, number-puts_behind}
use Rattle.layer_heading.specs.Heads.{HasSameShape}
use Rattle.layer_heading.proofs.Bytes.{Agree, byte_number, number_agrees}
use Rattle.layer_heading.proofs.Changes.{Changed, HasFormat, text_of, walk_changed}
use Rattle.layer_heading.proofs.Parts.{Formats, Parts, Shaped, end_in, parts, shape_again, shaped}
use Rattle.layer_heading.proofs.Walks.{end_behind, walk_same}

-- ---- the first sector

-- behind the header no field is written
fields_behind : (h : Header) (k : ℕ) (first : List ℕ) → IsHeader h → 512 ≤ length first → h.header_length ≤ k → get_or (put_fields h first) k 0 ≡ get_or first k 0
fields_behind h k first is fits le = sym (byte_number k (put_fields h first)) ∙ go (eqb h.version 3) refl (tests h is.no_fault).0 ∙ byte_number k first
  where
    two : 72 ≤ k → number 1 k (puts (version_2_table h) first) ≡ number 1 k first
    two low = number-puts_behind 1 k 0 72 (version_2_table h) first low (stand_2 h) (omega (arith, fits))

    three : 104 ≤ k → number 1 k (puts (version_3_table h) (puts (version_2_table h) first)) ≡ number 1 k first
    three low =
        number-puts_behind 1 k 72 104 (version_3_table h) (puts (version_2_table h) first) low (stand_3 h) (omega (arith, fits, length-puts 0 72 (version_2_table h) first (stand_2 h) (omega (arith, fits))))
        ∙ two (omega (arith, low))

    go : (b : Bool) → eqb h.version 3 ≡ b → (h.version ≡ 2) ⊎ (h.version ≡ 3)
        → number 1 k (cond b (puts (version_3_table h) (puts (version_2_table h) first)) (puts (version_2_table h) first)) ≡ number 1 k first
    go true e v = let low = is.late (eqb-true h.version 3 e) in three (omega (arith, low, le))
    go false e (inl v) = let early = is.early v in two (omega (arith, early.2, le))
    go false e (inr v) = let low = is.late v in two (omega (arith, low, le))

-- outside the backing format, where there is one
format_apart : (o : Option ℕ) (f : Option Format) (k : ℕ) (bytes : List ℕ) → IfSome o (λ at. at + 16 ≤ 512) → 512 ≤ length bytes → IfSome o (λ at. (k < at) ⊎ (at + 16 ≤ k))
    → get_or (put_format o f bytes) k 0 ≡ get_or bytes k 0
format_apart None f k bytes room fits apart = refl
format_apart (Some at) None k bytes room fits apart = refl
format_apart (Some at) (Some f) k bytes room fits (inl before) = get_or-put_before at (format_bytes f) bytes k (omega (arith, room, fits)) before
format_apart (Some at) (Some f) k bytes room fits (inr behind) = get_or-put_behind at (format_bytes f) bytes k (omega (arith, room, fits)) (omega (arith, length-format_bytes f, behind))

format_long : (o : Option ℕ) (f : Option Format) (bytes : List ℕ) → IfSome o (λ at. at + 16 ≤ 512) → 512 ≤ length bytes → length (put_format o f bytes) ≡ length bytes
format_long None f bytes room fits = refl
format_long (Some at) None bytes room fits = refl
format_long (Some at) (Some f) bytes room fits = length-put at (format_bytes f) bytes (omega (arith, length-format_bytes f, room, fits))

has_room : (h : Header) → IsHeader h → IfSome h.format_at (λ at. at + 16 ≤ 512)
has_room h is = go h.format_at is.room
  where
    go : (o : Option ℕ) → IfSome o (λ at. (h.header_length ≤ at) × (at + 16 ≤ 512)) → IfSome o (λ at. at + 16 ≤ 512)
    go None r = tt
    go (Some at) r = r.1

pub written_length : (h : Header) (first : List ℕ) → IsHeader h → length first ≡ 512 → length (written h first) ≡ 512
written_length h first is len =
    let fields = length-put_fields h first (omega (arith, len)) ∙ len in
    format_long h.format_at h.format (put_fields h first) (has_room h is) (omega (arith, fields)) ∙ fields

-- ---- the extension that is written

marked : (f : Format) (xs : List ℕ) → big_number 4 (format_bytes f ++ xs) ≡ backing_format
unfolding format_bytes bytes_of
marked Raw xs = refl
marked Cow xs = refl

sized_text : (f : Format) (xs : List ℕ) → big_number 4 (drop 4 (format_bytes f ++ xs)) ≡ length (text_of f)
unfolding format_bytes bytes_of
sized_text Raw xs = refl
sized_text Cow xs = refl

written_text : (f : Format) (xs : List ℕ) → take (length (text_of f)) (drop 8 (format_bytes f ++ xs)) ≡ text_of f
unfolding format_bytes bytes_of
written_text Raw xs = refl
written_text Cow xs = refl

short_text : (f : Format) → length (text_of f) ≤ 5
short_text Raw = omega arith
short_text Cow = omega arith

pub from_format : (at : ℕ) (new bytes rest : List ℕ) → at ≤ length bytes → drop at (put at new bytes ++ rest) ≡ new ++ (drop (length new) (drop at bytes) ++ rest)
unfolding put
from_format at new bytes rest fits =
    let len : length (take at bytes) ≡ at = omega (arith, length-take at bytes, fits) in
    ap (drop at) (append_assoc (take at bytes) (new ++ drop (length new) (drop at bytes)) rest)
    ∙ drop_at (take at bytes) ((new ++ drop (length new) (drop at bytes)) ++ rest) at len
    ∙ append_assoc new (drop (length new) (drop at bytes)) rest

in_head : (n at span : ℕ) (bytes : List ℕ) → at + n ≤ span → number n at (take span bytes) ≡ number n at bytes
in_head n at span bytes le = number-same n at (take span bytes) bytes (λ k low high. get_or-take span bytes k 0 (omega (arith, high, le)))

format_here : (at span : ℕ) (f : Format) (fields rest : List ℕ) → at + 16 ≤ 512 → length fields ≡ 512 → 512 ≤ span → HasFormat (take span (put at (format_bytes f) fields ++ rest)) at f
unfolding number
format_here at span f fields rest fits len wide =
    let first = put at (format_bytes f) fields in
    let bytes = first ++ rest in
    let head = take span bytes in
    let new_len = length-format_bytes f in
    let first_len : length first ≡ 512 = length-put at (format_bytes f) fields (omega (arith, new_len, len, fits)) ∙ len in
    let size : 512 ≤ length head = omega (arith, length-take span bytes, length-append first rest, first_len, wide) in
    let from = from_format at (format_bytes f) fields rest (omega (arith, len, fits)) in
    let sizes : number 4 (at + 4) head ≡ length (text_of f) = in_head 4 (at + 4) span bytes (omega (arith, wide, fits)) ∙ ap (big_number 4) (sym (drop-drop 4 at bytes)) ∙ ap (λ (xs : List ℕ). big_number 4 (drop 4 xs)) from ∙ sized_text f _ in
    record {
      kind = in_head 4 at span bytes (omega (arith, wide, fits)) ∙ ap (big_number 4) from ∙ marked f _;
      size = sizes;
      text =
          ap (λ n. take n (drop (at + 8) head)) sizes
          ∙ part_of span (at + 8) (length (text_of f)) bytes (omega (arith, size, fits, short_text f))
          ∙ ap (take (length (text_of f))) (sym (drop-drop 8 at bytes)) ∙ ap (λ (xs : List ℕ). take (length (text_of f)) (drop 8 xs)) from ∙ written_text f _;
    }

-- ---- the head

module _ (h next : Header) (first rest : List ℕ) (len : length first ≡ 512) (is : header_of (first ++ rest) ≡ Ok h) (same : HasSameShape h next) (fine : IsHeader next) where
  abbrev bytes : List ℕ
  bytes = first ++ rest

  abbrev bytes' : List ℕ
  bytes' = written next first ++ rest

  abbrev span : ℕ
  span = head_size next.cluster_bits

  abbrev xs : List ℕ
  xs = take span bytes

  abbrev ys : List ℕ
  ys = take span bytes'

  old : Parts bytes h
  old = parts bytes h is

  shape : Shaped xs h old.found
  shape = shaped xs h old.found (ap (λ b. shape_of (take (head_size b) bytes) h) same.bits ∙ old.shape)

  wide : 4096 ≤ span
  wide = let least : 2 ^ 12 ≤ 2 ^ next.cluster_bits = pow-le-pow_right (omega arith) (cluster_range next fine.no_fault).0 in omega (arith, least)

  fields : List ℕ
  fields = put_fields next first

  fields_len : length (put_fields next first) ≡ 512
  fields_len = length-put_fields next first (omega (arith, len)) ∙ len

  written_len : length (written next first) ≡ 512
  written_len = format_long next.format_at next.format (put_fields next first) (has_room next fine) (omega (arith, fields_len)) ∙ fields_len

  long : length ys ≡ length xs
  long = omega (arith, length-take span bytes, length-take span bytes', length-append first rest, length-append (written next first) rest, len, written_len)

  some : 512 ≤ length xs
  some = omega (arith, length-take span bytes, length-append first rest, len, wide)

  byte_kept : (k : ℕ) → next.header_length ≤ k → IfSome next.format_at (λ at. (k < at) ⊎ (at + 16 ≤ k)) → get_or bytes' k 0 ≡ get_or bytes k 0
  byte_kept k low apart = go (cases_lt k 512)
    where
      go : (k < 512) ⊎ (512 ≤ k) → get_or bytes' k 0 ≡ get_or bytes k 0
      go (inl lt) =
          get_or_append_left (written next first) rest 0 k (omega (arith, written_len, lt))
          ∙ format_apart next.format_at next.format k (put_fields next first) (has_room next fine) (omega (arith, fields_len)) apart
          ∙ fields_behind next k first fine (omega (arith, len)) low
          ∙ sym (get_or_append_left first rest 0 k (omega (arith, len, lt)))
      go (inr le) =
          get_or-append_right (written next first) rest k 0 (omega (arith, written_len, le))
          ∙ ap (λ n. get_or rest (k - n) 0) (written_len ∙ sym len)
          ∙ sym (get_or-append_right first rest k 0 (omega (arith, len, le)))

  agree : (from to : ℕ) → next.header_length ≤ from → to ≤ span → ((k : ℕ) → from ≤ k → k < to → IfSome next.format_at (λ at. (k < at) ⊎ (at + 16 ≤ k))) → Agree xs ys from to
  agree from to low high apart k ge lt =
      get_or-take span bytes' k 0 (omega (arith, lt, high)) ∙ byte_kept k (omega (arith, low, ge)) (apart k ge lt) ∙ sym (get_or-take span bytes k 0 (omega (arith, lt, high)))

  abbrev end : ℕ
  end = end_in xs h

  closed_parts : (nat_le (end + 8) (length xs) ≡ true) × ((number 4 end xs == 0) ≡ true)
  closed_parts = go (nat_le (end + 8) (length xs)) (number 4 end xs == 0) (nat_le (end + 8 + 1024) (head_size h.cluster_bits)) shape.closed
    where
      go : (a b c : Bool) → (a && b && c) ≡ true → (a ≡ true) × (b ≡ true)
      go true true c e = (refl, refl)
      go true false c e = absurd cc
      go false b c e = absurd cc

  end_inside : end + 8 ≤ length xs
  end_inside = let e = closed_parts.0 in within (end + 8) (length xs) e
    where
      within : (a b : ℕ) → nat_le a b ≡ true → a ≤ b
      within a b e = grind (arith, nat_tests)

  end_in_span : end + 8 ≤ span
  end_in_span = omega (arith, end_inside, length-take span bytes)

  -- from the walk over the new head
  finish : (found : Formats) → last_format ys (extensions_at ys next.header_length) ≡ Ok found → end_in ys next ≡ end → number 4 end ys ≡ number 4 end xs
      → has_name ys next ≡ true → with_format next found ≡ next → header_of bytes' ≡ Ok next
  finish found formats ends mark named own =
      header_again next first rest found fine len
      (shape_again ys next end found formats ends
      (ap (λ v. v == 2 || (nat_le 104 next.header_length && next.header_length % 8 == 0)) same.version ∙ ap (λ n. h.version == 2 || (nat_le 104 n && n % 8 == 0)) same.length ∙ shape.long)
      (ap (λ b. next.l1_table_offset % 2 ^ b == 0 && next.refcount_table_offset % 2 ^ b == 0) same.bits
      ∙ ap (λ o. o % 2 ^ h.cluster_bits == 0 && next.refcount_table_offset % 2 ^ h.cluster_bits == 0) same.l1
      ∙ ap (λ o. h.l1_table_offset % 2 ^ h.cluster_bits == 0 && o % 2 ^ h.cluster_bits == 0) same.table ∙ shape.aligned)
      named
      (ap (λ n. nat_le (end + 8) n && number 4 end ys == 0 && nat_le (end + 8 + 1024) span) long
      ∙ ap (λ n. nat_le (end + 8) (length xs) && n == 0 && nat_le (end + 8 + 1024) span) mark
      ∙ ap (λ b. nat_le (end + 8) (length xs) && number 4 end xs == 0 && nat_le (end + 8 + 1024) (head_size b)) same.bits
      ∙ shape.closed))
      own

  -- without a backing format
  none_step : old.found ≡ None → next.format_at ≡ None → next.format ≡ None → has_name ys next ≡ true → header_of bytes' ≡ Ok next
  none_step none at format named =
      let walked = walk_same xs ys long (length xs) h.header_length (agree h.header_length (end + 8) (omega (arith, same.length)) end_in_span (λ k ge lt. subst (λ (o : Option ℕ). IfSome o (λ at. (k < at) ⊎ (at + 16 ≤ k))) (sym at) tt)) in
      let exts : extensions_at ys next.header_length ≡ extensions_at xs h.header_length = ap (extensions_at ys) same.length ∙ ap (λ n. extensions_up_to n ys h.header_length) long ∙ walked.same in
      finish None (ap (last_format ys) exts ∙ walked.formats ∙ shape.formats ∙ ap (λ (o : Formats). Ok o) none)
      (ap (λ es. end_after next.header_length es) exts ∙ ap (λ n. end_after n (extensions_at xs h.header_length)) same.length)
      (number_agrees xs ys h.header_length (end + 8) 4 end (agree h.header_length (end + 8) (omega (arith, same.length)) end_in_span (λ k ge lt. subst (λ (o : Option ℕ). IfSome o (λ at. (k < at) ⊎ (at + 16 ≤ k))) (sym at) tt)) (end_behind (length xs) xs h.header_length) (omega arith))
      named (λ i. record next { format_at = sym at i; format = sym format i })

  eight : h.header_length % 8 ≡ 0
  eight = go (tests next fine.no_fault).0
    where
      third : (v n : ℕ) → v ≡ 3 → (v == 2 || (nat_le 104 n && n % 8 == 0)) ≡ true → n % 8 ≡ 0
      third v n three e = grind (arith, nat_tests)

      go : (next.version ≡ 2) ⊎ (next.version ≡ 3) → h.header_length % 8 ≡ 0
      go (inl two) = omega (arith, same.length, (fine.early two).2)
      go (inr three) = third h.version h.header_length (sym same.version ∙ three) shape.long

  -- with one
  some_step : (fa : ℕ) (f g : Format) → old.found ≡ Some (fa, f) → next.format_at ≡ Some fa → next.format ≡ Some g → has_name ys next ≡ true → header_of bytes' ≡ Ok next
  some_step fa f g found at format named =
      let room : (next.header_length ≤ fa) × (fa + 16 ≤ 512) = subst (λ (o : Option ℕ). IfSome o (λ k. (next.header_length ≤ k) × (k + 16 ≤ 512))) at fine.room in
      let put_is : written next first ≡ put fa (format_bytes g) (put_fields next first) =
      ap (λ o. put_format o next.format (put_fields next first)) at ∙ ap (λ o. put_format (Some fa) o (put_fields next first)) format in
      let has : HasFormat ys fa g = subst (λ (zs : List ℕ). HasFormat (take span (zs ++ rest)) fa g) (sym put_is) (format_here fa span g (put_fields next first) rest room.1 fields_len (omega (arith, wide))) in
      let front : Agree xs ys h.header_length fa =
      agree h.header_length fa (omega (arith, same.length)) (omega (arith, room.1, wide)) (λ k ge lt. subst (λ (o : Option ℕ). IfSome o (λ at. (k < at) ⊎ (at + 16 ≤ k))) (sym at) (inl lt)) in
      let back : Agree xs ys (fa + 16) (end + 8) =
      agree (fa + 16) (end + 8) (omega (arith, room.0)) end_in_span (λ k ge lt. subst (λ (o : Option ℕ). IfSome o (λ at. (k < at) ⊎ (at + 16 ≤ k))) (sym at) (inr ge)) in
      let walked : Changed (length xs) xs ys h.header_length (fa, g) =
      walk_changed xs ys long fa f g room.1 has (length xs) h.header_length eight (shape.formats ∙ ap (λ (o : Formats). Ok o) found) front back in
      let exts : extensions_at ys next.header_length ≡ extensions_up_to (length xs) ys h.header_length = ap (extensions_at ys) same.length ∙ ap (λ n. extensions_up_to n ys h.header_length) long in
      finish (Some (fa, g)) (ap (last_format ys) exts ∙ walked.formats)
      (ap (λ es. end_after next.header_length es) exts ∙ ap (λ n. end_after n (extensions_up_to (length xs) ys h.header_length)) same.length ∙ walked.ends)
      (number_agrees xs ys (fa + 16) (end + 8) 4 end back walked.behind (omega arith))
      named (λ i. record next { format_at = sym at i; format = sym format i })

  pub written_again : has_name ys next ≡ true → header_of bytes' ≡ Ok next
  written_again named = go old.found refl
    where
      no_format : (o : Option Format) → is_some o ≡ false → o ≡ None
      no_format None e = refl
      no_format (Some f) e = absurd cc

      a_format : (o : Option Format) → is_some o ≡ true → (g : Format) × (o ≡ Some g)
      a_format (Some g) e = (g, refl)
      a_format None e = absurd cc

      at_is : (o : Formats) → old.found ≡ o → next.format_at ≡ (with_format h o).format_at
      at_is o e = same.format_at ∙ sym (ap (λ (x : Header). x.format_at) old.own) ∙ ap (λ o. (with_format h o).format_at) e

      format_is : (o : Formats) → old.found ≡ o → is_some next.format ≡ is_some (with_format h o).format
      format_is o e = same.format ∙ sym (ap (λ (x : Header). is_some x.format) old.own) ∙ ap (λ o. is_some (with_format h o).format) e

      go : (o : Formats) → old.found ≡ o → header_of bytes' ≡ Ok next
      go None e = none_step e (at_is None e) (no_format next.format (format_is None e)) named
      go (Some (fa, f)) e = let g = a_format next.format (format_is (Some (fa, f)) e) in some_step fa f g.0 e (at_is (Some (fa, f)) e) g.1 named
