-- A head with a larger size and a longer L1 table.
use Rattle.std.proofs.Common.{◌≡◌, ◌⊎◌, inl, inr, ℕ, ◌+◌, ◌-◌, ◌*◌, ◌/◌, ◌%◌, ◌^◌, ◌<◌, ◌≤◌, Bool, true, false, List, length, get_or, take, drop, Option, Some, None, Result, Ok, Err, refl, sym, ap, ◌∙◌, arith, nat_lt, eqb-true}
use Rattle.std.specs.Prelude.{◌==◌, ◌&&◌, ◌||◌, nat_le, if◌then◌else◌}
use Rattle.std.proofs.lemmas.Bool.Decides.{nat_tests}
use Rattle.std.proofs.lemmas.List.{get_or-drop}
use Rattle.sd_names.specs.declared.fault.LayerFault.{LayerFault}
use Rattle.qcow_format.specs.Bytes.{number}
use Rattle.qcow_format.specs.declared.header.Header.{Header}
use Rattle.qcow_format.specs.Header.{field_fault, fields_of, fields_of_version_2, fields_of_version_3, fine_fields, head_size, header_of, with_format}
use Rattle.qcow_format.specs.Name.{backing_id}
use Rattle.qcow_format.proofs.Accepted.{fine_ok}
use Rattle.qcow_format.proofs.Kept.{cluster_range, read_without_fault, tables_aligned}
use Rattle.qcow_format.proofs.Put.{number-same}
use Rattle.layer_laws.specs.Laws.{with_l1}
use Rattle.layer_laws.proofs.Numbers.{cluster_sectors, whole_sector}
use Rattle.layer_heading.proofs.Fields.{HasFields, IsAlike, first_zero, parent_same, read_next}
use Rattle.layer_heading.proofs.Parts.{Parts, parts, shaped}

pub eight_bytes : (at : ℕ) (xs : List ℕ) → number 8 at xs
    ≡ get_or (drop at xs) 0 0 * 72_057_594_037_927_936 + (get_or (drop at xs) 1 0 * 281_474_976_710_656 + (get_or (drop at xs) 2 0 * 1_099_511_627_776 + (get_or (drop at xs) 3 0 * 4_294_967_296
    + (get_or (drop at xs) 4 0 * 16_777_216 + (get_or (drop at xs) 5 0 * 65_536 + (get_or (drop at xs) 6 0 * 256 + get_or (drop at xs) 7 0))))))
unfolding number
eight_bytes at xs =
    sum (get_or (drop at xs) 0 0) (get_or (drop at xs) 1 0) (get_or (drop at xs) 2 0) (get_or (drop at xs) 3 0) (get_or (drop at xs) 4 0) (get_or (drop at xs) 5 0) (get_or (drop at xs) 6 0) (get_or (drop at xs) 7 0)
  where
    sum : (a b c d e f g h : ℕ) → a * 256 ^ 7 + (b * 256 ^ 6 + (c * 256 ^ 5 + (d * 256 ^ 4 + (e * 256 ^ 3 + (f * 256 ^ 2 + (g * 256 ^ 1 + (h * 256 ^ 0 + 0)))))))
        ≡ a * 72_057_594_037_927_936 + (b * 281_474_976_710_656 + (c * 1_099_511_627_776 + (d * 4_294_967_296 + (e * 16_777_216 + (f * 65_536 + (g * 256 + h))))))
    sum a b c d e f g h = omega arith

-- eight bytes that are 0 are the number 0
pub eight_zeros : (at : ℕ) (xs : List ℕ) → ((j : ℕ) → j < 8 → get_or xs (at + j) 0 ≡ 0) → number 8 at xs ≡ 0
eight_zeros at xs zeros =
    eight_bytes at xs
    ∙ sum (get_or (drop at xs) 0 0) (get_or (drop at xs) 1 0) (get_or (drop at xs) 2 0) (get_or (drop at xs) 3 0) (get_or (drop at xs) 4 0) (get_or (drop at xs) 5 0) (get_or (drop at xs) 6 0) (get_or (drop at xs) 7 0)
    (b 0 (omega arith)) (b 1 (omega arith)) (b 2 (omega arith)) (b 3 (omega arith)) (b 4 (omega arith)) (b 5 (omega arith)) (b 6 (omega arith)) (b 7 (omega arith))
  where
    b : (j : ℕ) → j < 8 → get_or (drop at xs) j 0 ≡ 0
    b j lt = get_or-drop at xs j 0 ∙ zeros j lt

    sum : (a b c d e f g h : ℕ) → a ≡ 0 → b ≡ 0 → c ≡ 0 → d ≡ 0 → e ≡ 0 → f ≡ 0 → g ≡ 0 → h ≡ 0
        → a * 72_057_594_037_927_936 + (b * 281_474_976_710_656 + (c * 1_099_511_627_776 + (d * 4_294_967_296 + (e * 16_777_216 + (f * 65_536 + (g * 256 + h)))))) ≡ 0
    sum a b c d e f g h ea eb ec ed ee ef eg eh = omega (arith, ea, eb, ec, ed, ee, ef, eg, eh)

-- the last byte of a number of 8 bytes that is a multiple of 512
last_even : (at : ℕ) (xs : List ℕ) → ((k : ℕ) → get_or xs k 0 < 256) → number 8 at xs % 512 ≡ 0 → get_or xs (at + 7) 0 ≡ 0
last_even at xs small even =
    sym (get_or-drop at xs 7 0)
    ∙ low (get_or (drop at xs) 0 0) (get_or (drop at xs) 1 0) (get_or (drop at xs) 2 0) (get_or (drop at xs) 3 0) (get_or (drop at xs) 4 0) (get_or (drop at xs) 5 0) (get_or (drop at xs) 6 0) (get_or (drop at xs) 7 0)
    (omega (arith, get_or-drop at xs 7 0, small (at + 7))) (sym (ap (λ n. n % 512) (eight_bytes at xs)) ∙ even)
  where
    low : (a b c d e f g h : ℕ) → h < 256
        → (a * 72_057_594_037_927_936 + (b * 281_474_976_710_656 + (c * 1_099_511_627_776 + (d * 4_294_967_296 + (e * 16_777_216 + (f * 65_536 + (g * 256 + h))))))) % 512 ≡ 0 → h ≡ 0
    low a b c d e f g h lt even = omega (arith, lt, even)

longer_fault : (h : Header) (size l : ℕ) → field_fault (with_l1 h size l) ≡ field_fault h
unfolding field_fault
longer_fault h size l = refl

-- fields that pass their tests still do
fine_longer : (f : Header) (size l : ℕ) → fine_fields f ≡ Ok f → fine_fields (with_l1 f size l) ≡ Ok (with_l1 f size l)
fine_longer f size l e = go (field_fault (with_l1 f size l)) (longer_fault f size l ∙ (fine_ok f f (field_fault f) e).0)
  where
    go : (o : Option LayerFault) → o ≡ None → elim o as (λ _. Result Header LayerFault) [ None ↦ Ok (with_l1 f size l) | Some x ↦ Err x ] ≡ Ok (with_l1 f size l)
    go None e = refl
    go (Some x) e = absurd cc

longer_alike : (h : Header) (size l : ℕ) → IsAlike h (with_l1 h size l)
longer_alike h size l = record { long = refl; aligned = refl; length = refl; bits = refl; name = λ head. refl; id = λ head. refl }

-- a byte outside the two fields
abbrev pub IsOther : ℕ → Type 0
IsOther k = (k < 24) ⊎ (((32 ≤ k) × (k < 36)) ⊎ (40 ≤ k))

module _ (h : Header) (size l : ℕ) (bytes bytes' : List ℕ) (is : header_of bytes ≡ Ok h) (small : (k : ℕ) → get_or bytes k 0 < 256) (len : length bytes' ≡ length bytes)
    (size_is : number 8 24 bytes' ≡ size) (l_is : number 4 36 bytes' ≡ l) (maps : size ≤ l * (2 ^ h.cluster_bits / 8 * 2 ^ h.cluster_bits))
    (same : (k : ℕ) → IsOther k → get_or bytes' k 0 ≡ get_or bytes k 0) where
  abbrev next : Header
  next = with_l1 h size l

  abbrev old : Parts bytes h
  old = parts bytes h is

  n : (w at : ℕ) → (at + w ≤ 24) ⊎ (((32 ≤ at) × (at + w ≤ 36)) ⊎ (40 ≤ at)) → number w at bytes' ≡ number w at bytes
  n w at side = number-same w at bytes' bytes (λ k ge lt. same k (apart k ge lt side))
    where
      apart : (k : ℕ) → at ≤ k → k < at + w → (at + w ≤ 24) ⊎ (((32 ≤ at) × (at + w ≤ 36)) ⊎ (40 ≤ at)) → IsOther k
      apart k ge lt (inl le) = inl (omega (arith, lt, le))
      apart k ge lt (inr (inl (low, le))) = inr (inl (omega (arith, ge, low), omega (arith, lt, le)))
      apart k ge lt (inr (inr le)) = inr (inr (omega (arith, ge, le)))

  fields_2 : fields_of_version_2 bytes' ≡ with_l1 (fields_of_version_2 bytes) size l
  unfolding fields_of_version_2
  fields_2 =
      rw (
        n 4 0 (inl (omega arith)),
        n 4 4 (inl (omega arith)),
        n 8 8 (inl (omega arith)),
        n 4 16 (inl (omega arith)),
        n 4 20 (inl (omega arith)),
        size_is,
        n 4 32 (inr (inl (omega arith, omega arith))),
        l_is,
        n 8 40 (inr (inr (omega arith))),
        n 8 48 (inr (inr (omega arith))),
        n 4 56 (inr (inr (omega arith))),
        n 4 60 (inr (inr (omega arith))),
        n 8 64 (inr (inr (omega arith))),
      ) refl

  fields_3 : fields_of_version_3 bytes' ≡ with_l1 (fields_of_version_3 bytes) size l
  unfolding fields_of_version_2
  fields_3 =
      rw (
        n 4 0 (inl (omega arith)),
        n 4 4 (inl (omega arith)),
        n 8 8 (inl (omega arith)),
        n 4 16 (inl (omega arith)),
        n 4 20 (inl (omega arith)),
        size_is,
        n 4 32 (inr (inl (omega arith, omega arith))),
        l_is,
        n 8 40 (inr (inr (omega arith))),
        n 8 48 (inr (inr (omega arith))),
        n 4 56 (inr (inr (omega arith))),
        n 4 60 (inr (inr (omega arith))),
        n 8 64 (inr (inr (omega arith))),
        n 8 72 (inr (inr (omega arith))),
        n 8 80 (inr (inr (omega arith))),
        n 8 88 (inr (inr (omega arith))),
        n 4 96 (inr (inr (omega arith))),
        n 4 100 (inr (inr (omega arith))),
      ) refl

  fields_are : fields_of bytes' ≡ with_l1 old.fields size l
  unfolding fields_of
  fields_are =
      ap (λ m. if m == 3 then fields_of_version_3 bytes' else fields_of_version_2 bytes') (n 4 4 (inl (omega arith)))
      ∙ both (number 4 4 bytes == 3)
      ∙ ap (λ (x : Header). with_l1 x size l) old.read
    where
      both : (b : Bool) → (if b then fields_of_version_3 bytes' else fields_of_version_2 bytes') ≡ with_l1 (if b then fields_of_version_3 bytes else fields_of_version_2 bytes) size l
      both true = fields_3
      both false = fields_2

  -- what both versions say of the old head
  by_version : (b : Bool) → (number 4 4 bytes == 3) ≡ b → with_format (if b then fields_of_version_3 bytes else fields_of_version_2 bytes) old.found ≡ h
  unfolding fields_of
  by_version b t = ap (λ b. with_format (if b then fields_of_version_3 bytes else fields_of_version_2 bytes) old.found) (sym t) ∙ ap (λ (x : Header). with_format x old.found) old.read ∙ old.with_found

  bits_are : number 4 20 bytes ≡ h.cluster_bits
  unfolding fields_of_version_2
  bits_are = go (number 4 4 bytes == 3) refl
    where
      go : (b : Bool) → (number 4 4 bytes == 3) ≡ b → number 4 20 bytes ≡ h.cluster_bits
      go true t = ap (λ (x : Header). x.cluster_bits) (by_version true t)
      go false t = ap (λ (x : Header). x.cluster_bits) (by_version false t)

  offset_is : number 8 40 bytes ≡ h.l1_table_offset
  unfolding fields_of_version_2
  offset_is = go (number 4 4 bytes == 3) refl
    where
      go : (b : Bool) → (number 4 4 bytes == 3) ≡ b → number 8 40 bytes ≡ h.l1_table_offset
      go true t = ap (λ (x : Header). x.l1_table_offset) (by_version true t)
      go false t = ap (λ (x : Header). x.l1_table_offset) (by_version false t)

  long : 40 ≤ h.header_length
  unfolding fields_of_version_2
  long = go (number 4 4 bytes == 3) refl
    where
      third : (v m : ℕ) → v ≡ 3 → (v == 2 || (nat_le 104 m && m % 8 == 0)) ≡ true → 40 ≤ m
      third v m three e = grind (arith, nat_tests)

      go : (b : Bool) → (number 4 4 bytes == 3) ≡ b → 40 ≤ h.header_length
      go true t =
          third h.version h.header_length (sym (ap (λ (x : Header). x.version) (by_version true t)) ∙ eqb-true (number 4 4 bytes) 3 t)
          (shaped (take (head_size h.cluster_bits) bytes) h old.found old.shape).long
      go false t = let e : 72 ≡ h.header_length = ap (λ (x : Header). x.header_length) (by_version false t) in omega (arith, e)

  range : (12 ≤ h.cluster_bits) × (h.cluster_bits ≤ 21)
  range = let r = cluster_range h (read_without_fault bytes h is) in (r.0, r.1)

  -- bytes before the fields and behind them
  before : get_or bytes 20 0 ≡ 0
  before = first_zero 20 bytes (omega (arith, bits_are, range.1))

  after : get_or bytes 47 0 ≡ 0
  after = last_even 40 bytes small (ap (λ x. x % 512) offset_is ∙ whole_sector h.l1_table_offset (2 ^ h.cluster_bits) (2 ^ (h.cluster_bits - 9)) (cluster_sectors h.cluster_bits range.0) (tables_aligned bytes h is).0)

  has : HasFields bytes' next old.found
  has = record {
    fields = with_l1 old.fields size l;
    read = fields_are;
    fine = fine_longer old.fields size l old.fine;
    whole = ap (λ (x : Header). with_l1 x size l) old.with_found;
    fits = ap (λ b. nat_lt (l * (2 ^ b / 8 * 2 ^ b)) size) (ap (λ (x : Header). x.cluster_bits) old.with_found) ∙ fits size (l * (2 ^ h.cluster_bits / 8 * 2 ^ h.cluster_bits)) maps;
  }
    where
      fits : (a b : ℕ) → a ≤ b → nat_lt b a ≡ false
      fits a b le = grind (arith, nat_tests)

  inside : (k : ℕ) → (k < 24) ⊎ (40 ≤ k) → get_or bytes' k 0 ≡ get_or bytes k 0
  inside k (inl lt) = same k (inl lt)
  inside k (inr le) = same k (inr (inr le))

  pub parent_sized : backing_id next bytes' ≡ backing_id h bytes
  parent_sized =
      parent_same h next bytes bytes' is (longer_alike h size l) has len 24 40 20 47 (omega arith) (omega arith) (omega arith) before after long inside

  pub read_sized : header_of bytes' ≡ Ok next
  read_sized =
      read_next h next bytes bytes' is (longer_alike h size l) has len 24 40 20 47 (omega arith) (omega arith) (omega arith) before after long inside
