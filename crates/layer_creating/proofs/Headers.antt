-- The header of a new layer, as it is read from the file.
use Rattle.std.proofs.Common.{◌≡◌, ℕ, zero, suc, ◌+◌, ◌-◌, ◌*◌, ◌/◌, ◌^◌, ◌<◌, ◌≤◌, true, false, List, ◌++◌, length, get_or, take, drop, replicate, Option, Some, None, Ok, refl, sym, ap, ◌∙◌, arith, eqb, ne_eqb, nat_lt, nat_le}
use Rattle.std.specs.Prelude.{◌==◌, not, if◌then◌else◌}
use Rattle.std.specs.List.{flat_map, range_with_len}
use Rattle.std.specs.Option.{is_some, option_map}
use Rattle.std.proofs.lemmas.Bool.Decides.{nat_tests}
use Rattle.std.proofs.lemmas.List.{append_assoc, drop_at, length-append, take_at, take_all}
use Rattle.uuid.specs.Text.{parsed, parsed_hyphenated}
use Rattle.sd_names.specs.Id.{IsIdBytes, id_of, id_text}
use Rattle.sd_names.specs.declared.id.Id.{Id}
use Rattle.sd_names.proofs.IdLemmas.{id_text-apart, id_text-length, parsed_from_reads, reads_itself}
use Rattle.qcow_format.specs.Bytes.{put}
use Rattle.qcow_format.specs.Header.{field_fault, has_name, head_size, header_of}
use Rattle.qcow_format.specs.Name.{backing_id, is_id, last_part}
use Rattle.qcow_format.specs.Written.{HasRoom, IsHeader, IsNew, written}
use Rattle.qcow_format.proofs.NameLemmas.{last_part_is}
use Rattle.qcow_format.proofs.New.{new_header_again}
use Rattle.shared_disk.specs.Content.{zero_sector}
use Rattle.image_model.specs.File.{File, file_of, sector_in}
use Rattle.image_model.specs.Soundness.{layer_header, layer_header_of}
use Rattle.layer_creating.specs.New.{HasBytes, header_sector, l1_size_for, name_sector, new_header, new_sector, parent_of}
use Rattle.layer_creating.proofs.Lengths.{sector_long}
use Rattle.layer_creating.specs.declared.backing.Backing.{Backing}

pub has_room : (capacity : ℕ) (backing : Option Backing) → HasRoom (new_header capacity backing)
has_room capacity None = tt
has_room capacity (Some backing) = omega arith

-- ---- the header by itself

no_fault : (capacity : ℕ) (backing : Option Backing) → field_fault (new_header capacity backing) ≡ None
unfolding field_fault
no_fault capacity backing = refl

maps : (capacity : ℕ) → capacity ≤ l1_size_for capacity * (2 ^ 16 / 8 * 2 ^ 16)
maps capacity = omega arith

is_header : (capacity : ℕ) (backing : Option Backing) → capacity ≤ 2 ^ 40 → IsHeader (new_header capacity backing)
is_header capacity None high = record {
  both_fit = (omega arith, (omega arith, (omega arith, (omega arith, (omega arith, (omega (arith, high), (omega arith, (omega (arith, high), (omega arith, (omega arith, (omega arith, (omega arith, (omega arith, tt)))))))))))));
  later_fit = (omega arith, (omega arith, (omega arith, (omega arith, (omega arith, tt)))));
  no_fault = no_fault capacity None;
  early = λ two. absurd cc;
  late = λ three. omega arith;
  named = refl;
  room = tt;
  mapped = maps capacity;
}
is_header capacity (Some backing) high = record {
  both_fit = (omega arith, (omega arith, (omega arith, (omega arith, (omega arith, (omega (arith, high), (omega arith, (omega (arith, high), (omega arith, (omega arith, (omega arith, (omega arith, (omega arith, tt)))))))))))));
  later_fit = (omega arith, (omega arith, (omega arith, (omega arith, (omega arith, tt)))));
  no_fault = no_fault capacity (Some backing);
  early = λ two. absurd cc;
  late = λ three. omega arith;
  named = refl;
  room = (omega arith, omega arith);
  mapped = maps capacity;
}

is_new : (capacity : ℕ) (backing : Option Backing) → IsNew (new_header capacity backing)
is_new capacity None = record { tables = refl; whole = refl; room = omega arith; behind = tt }
is_new capacity (Some backing) = record { tables = refl; whole = refl; room = omega arith; behind = refl }

-- ---- the head's sectors

module _ (sector : ℕ → List ℕ) where
  split : (a m d : ℕ) → flat_map sector (range_with_len a (m + d)) ≡ flat_map sector (range_with_len a m) ++ flat_map sector (range_with_len (a + m) d)
  split a zero d = let same : a ≡ a + zero = omega arith in let none : zero + d ≡ d = omega arith in ap (λ x. flat_map sector (range_with_len a x)) none ∙ ap (λ x. flat_map sector (range_with_len x d)) same
  split a (suc m) d =
      let more : suc m + d ≡ suc (m + d) = omega arith in
      let next : a + 1 + m ≡ a + suc m = omega arith in
      ap (λ x. flat_map sector (range_with_len a x)) more
      ∙ ap (λ xs. sector a ++ xs) (split (a + 1) m d)
      ∙ sym (append_assoc (sector a) (flat_map sector (range_with_len (a + 1) m)) (flat_map sector (range_with_len (a + 1 + m) d)))
      ∙ ap (λ x. (sector a ++ flat_map sector (range_with_len (a + 1) m)) ++ flat_map sector (range_with_len x d)) next

  whole : (a m : ℕ) → ((k : ℕ) → length (sector k) ≡ 512) → length (flat_map sector (range_with_len a m)) ≡ 512 * m
  whole a zero long = omega arith
  whole a (suc m) long =
      let here = long a in
      let rest = whole (a + 1) m long in
      let sum = length-append (sector a) (flat_map sector (range_with_len (a + 1) m)) in
      omega (arith, here, rest, sum)

-- ---- the name

pub id_again : (id : Id) → IsIdBytes id.0 → id_of (id_text id.0) ≡ Some id
unfolding id_of
id_again id is =
    let long = id_text-length id.0 in
    let read : Some id.0 ≡ parsed (id_text id.0) = parsed_from_reads (id_text id.0) id.0 is (reads_itself id.0) in
    let hyphens : parsed (id_text id.0) ≡ parsed_hyphenated (id_text id.0) = rw long refl in
    ap (λ (n : ℕ). if n == 36 then option_map made (parsed_hyphenated (id_text id.0)) else None) long ∙ ap (option_map made) (sym (read ∙ hyphens))
  where
    made : List ℕ → Id
    made bytes = record { 0 = bytes }

no_slash : (bytes : List ℕ) (k : ℕ) → k < 36 → not (eqb (get_or (id_text bytes) k 0) 47) ≡ true
no_slash bytes k lt =
    let apart = id_text-apart bytes k lt in
    let other : (get_or (id_text bytes) k 0 == 47) ≡ false = ne_eqb (get_or (id_text bytes) k 0) 47 (grind (arith, apart)) in
    ap not other

pub text_whole : (bytes : List ℕ) → last_part (id_text bytes) ≡ id_text bytes
text_whole bytes =
    let long = id_text-length bytes in
    sym (last_part_is (id_text bytes) 0 (omega arith) (λ k low lt. no_slash bytes k (omega (arith, lt, long))) (λ lt. absurd (omega (arith, lt))))
    ∙ take_all (length (id_text bytes) - 0) (id_text bytes) (omega arith)

module _ (capacity n : ℕ) (backing : Option Backing) (long : 2560 ≤ n) where
  abbrev F : File
  F = file_of n (new_sector capacity backing)

  abbrev sector : ℕ → List ℕ
  sector = sector_in n (new_sector capacity backing)

  head_is : F.head ≡ flat_map sector (range_with_len 0 128)
  unfolding file_of
  head_is = refl

  head_long : length F.head ≡ 65_536
  head_long = ap length head_is ∙ whole sector 0 128 (λ k. sector_long capacity n k backing)

  first_sector : sector 0 ≡ header_sector capacity backing
  unfolding new_sector
  first_sector = let e : nat_lt 0 n ≡ true = grind (arith, nat_tests) in rw e refl

  name_here : sector 126 ≡ name_sector backing
  unfolding new_sector
  name_here = let e : nat_lt 126 n ≡ true = grind (arith, nat_tests) in rw e refl

  -- the name's bytes
  from_name : drop 64_512 F.head ≡ name_sector backing ++ flat_map sector (range_with_len 127 1)
  from_name =
      ap (drop 64_512) (head_is ∙ split sector 0 126 2)
      ∙ drop_at (flat_map sector (range_with_len 0 126)) (flat_map sector (range_with_len 126 2)) 64_512 (whole sector 0 126 (λ k. sector_long capacity n k backing))
      ∙ ap (λ xs. xs ++ flat_map sector (range_with_len 127 1)) name_here

  name_bytes : (b : Backing) → backing ≡ Some b → take 36 (drop 64_512 F.head) ≡ id_text b.parent.0
  unfolding put
  name_bytes b is =
      let text = id_text b.parent.0 in
      let rest = drop (length text) (drop 0 zero_sector) in
      ap (take 36) (from_name ∙ ap (λ o. name_sector o ++ flat_map sector (range_with_len 127 1)) is ∙ append_assoc text rest (flat_map sector (range_with_len 127 1)))
      ∙ take_at text (rest ++ flat_map sector (range_with_len 127 1)) 36 (id_text-length b.parent.0)

  parent_name : (b : Backing) → backing ≡ Some b → IsIdBytes b.parent.0 → id_of (last_part (take 36 (drop 64_512 F.head))) ≡ Some b.parent
  parent_name b is bytes = ap (λ xs. id_of (last_part xs)) (name_bytes b is) ∙ ap id_of (text_whole b.parent.0) ∙ id_again b.parent bytes

  pub parent_read : HasBytes backing → backing_id (new_header capacity backing) F.head ≡ parent_of backing
  parent_read = go backing refl
    where
      go : (o : Option Backing) → backing ≡ o → HasBytes o → backing_id (new_header capacity o) F.head ≡ parent_of o
      go None is bytes = refl
      go (Some b) is bytes = parent_name b is bytes

  head_whole : take (head_size 16) F.head ≡ F.head
  head_whole = take_all 65_536 F.head (omega (arith, head_long))

  fine_name : HasBytes backing → has_name (take (head_size 16) F.head) (new_header capacity backing) ≡ true
  fine_name bytes = ap (λ xs. has_name xs (new_header capacity backing)) head_whole ∙ go backing refl bytes
    where
      go : (o : Option Backing) → backing ≡ o → HasBytes o → has_name F.head (new_header capacity o) ≡ true
      go None is bytes = refl
      go (Some b) is bytes =
          let fits : nat_le 64_548 (length F.head) ≡ true = let len = head_long in grind (arith, nat_tests) in
          let id : is_id (last_part (take 36 (drop 64_512 F.head))) ≡ true = ap is_some (parent_name b is bytes) in
          rw (fits, id) refl

  -- ---- the header

  abbrev rest : List ℕ
  rest = flat_map sector (range_with_len 1 127)

  head_split : F.head ≡ written (new_header capacity backing) (replicate 512 0) ++ rest
  unfolding zero_sector
  head_split = head_is ∙ ap (λ xs. xs ++ flat_map sector (range_with_len 1 127)) first_sector

  header_read : capacity ≤ 2 ^ 40 → HasBytes backing → header_of F.head ≡ Ok (new_header capacity backing)
  header_read high bytes =
      ap header_of head_split
      ∙ new_header_again (new_header capacity backing) rest (is_header capacity backing high) (is_new capacity backing)
      (ap (λ xs. has_name (take (head_size 16) xs) (new_header capacity backing)) (sym head_split) ∙ fine_name bytes)

  pub layer_read : capacity ≤ 2 ^ 40 → HasBytes backing → layer_header F capacity ≡ Ok (new_header capacity backing)
  unfolding layer_header file_of
  layer_read high bytes =
      let large : nat_lt (512 * n) 512 ≡ false = grind (arith, nat_tests) in
      let enough : nat_lt capacity capacity ≡ false = grind (arith, nat_tests) in
      rw large (ap (layer_header_of capacity) (header_read high bytes) ∙ rw enough refl)
