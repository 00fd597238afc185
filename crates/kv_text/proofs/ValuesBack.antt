-- Numbers and identifiers as values: they read as themselves, and have no line feed.
use Rattle.std.proofs.Common.{◌≡◌, ◌≤◌, ◌⊎◌, inl, inr, ℕ, ◌<◌, ◌^◌, true, false, List, length, get_or, refl, sym, ap, arith, decimal, Some, le-leb}
use Rattle.std.specs.Char.{is_ascii_digit}
use Rattle.std.specs.Option.{option_map}
use Rattle.std.proofs.lemmas.Bool.Decides.{nat_tests}
use Rattle.std.proofs.lemmas.Fmt.{digits_decimal}
use Rattle.std.proofs.lemmas.List.Elements.{All-from_get_or}
use Rattle.std.proofs.lemmas.List.Folds.{list_any_none}
use Rattle.std.proofs.lemmas.List.Sums.{AllPass-from_list_all}
use Rattle.std.proofs.lemmas.Slice.Eq.{bytes_eq-Decides}
use Rattle.sd_names.specs.Id.{IsIdBytes, id_text, id_of}
use Rattle.sd_names.specs.declared.id.Id.{Id}
use Rattle.sd_names.proofs.IdLemmas.{id_text-length, id_text-apart, reads_itself, parsed_from_reads}
use Rattle.kv_text.specs.Ids.{this_id}
use Rattle.kv_text.specs.Keys.{description_of}
use Rattle.kv_text.specs.Text.{IsOneLine, is_line_feed}
use Rattle.decimal_numbers.proofs.NumberLemmas.{own}

-- a digit is no line feed
digit_stays : (c : ℕ) → is_ascii_digit c ≡ true → is_line_feed c ≡ false
digit_stays c h = grind (arith, nat_tests)

pub decimal_one_line : (n : ℕ) → n < 2 ^ 64 → IsOneLine (decimal n)
decimal_one_line n h =
    let digits = AllPass-from_list_all is_ascii_digit (decimal n) (digits_decimal own n h) in
    list_any_none is_line_feed (decimal n) (λ k d within. digit_stays (get_or (decimal n) k d) (digits k d within))

-- the text of an identifier reads as that identifier
pub id_of-id_text : (bytes : List ℕ) → IsIdBytes bytes → id_of (id_text bytes) ≡ Some (record { 0 = bytes })
unfolding id_of
id_of-id_text bytes is =
    let long = id_text-length bytes in
    let some = rw long at (parsed_from_reads (id_text bytes) bytes is (reads_itself bytes)) in
    rw long (ap (option_map (λ bytes. record { 0 = bytes })) (sym some))

pub this_id-id_text : (id : Id) → IsIdBytes id.0 → this_id id (id_text id.0) ≡ Some id
unfolding this_id
this_id-id_text id is =
    rw (id_of-id_text id.0 is, (bytes_eq-Decides id.0 id.0).1 refl) refl

apart : (c : ℕ) → (47 < c) ⊎ (c ≡ 45) → is_line_feed c ≡ false
apart c (inl h) = grind (arith, nat_tests)
apart c (inr h) = grind (arith, nat_tests)

pub id_one_line : (bytes : List ℕ) → IsOneLine (id_text bytes)
id_one_line bytes =
    list_any_none is_line_feed (id_text bytes)
    (All-from_get_or (λ (c : ℕ). is_line_feed c ≡ false) (id_text bytes) 0
    (λ k within. apart (get_or (id_text bytes) k 0) (id_text-apart bytes k (rw (← id_text-length bytes) within))))

-- a description that is short enough means itself
pub description_back : (d : List ℕ) → length d ≤ 4096 → description_of d ≡ Some d
unfolding description_of
description_back d h = rw (le-leb (length d) 4096 h) refl
