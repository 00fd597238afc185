-- The values of a text have no line feed.
use Rattle.std.proofs.Common.{◌≡◌, ◌==◌, ℕ, ◌+◌, Bool, true, false, cond, List, [], ◌∷◌, length, take, drop, refl, Option, Some, None, is_some, Result, Ok, Err, All, fold}
use Rattle.std.specs.Prelude.{IfSome}
use Rattle.std.specs.Borrow.{Bor}
use Rattle.std.specs.List.{filter_map, position, position_or_len, after_first, onto_first}
use Rattle.std.specs.Option.{option_map}
use Rattle.std.specs.Result.{result_ok}
use Rattle.std.specs.Str.{bytes_eq}
use Rattle.std.proofs.lemmas.List.Elements.{All-nil, All-cons, All-head, All-tail, All-drop}
use Rattle.std.proofs.lemmas.List.Folds.{list_any_none}
use Rattle.kv_text.specs.Lookup.{value_of, value_so_far}
use Rattle.kv_text.specs.Text.{KeyValue, IsOneLine, lines, items_from, item_of, next_number, pairs, is_eof, is_line_feed, is_equals_sign}
use Rattle.kv_text.proofs.ReadBack.{none_passes}

onto_one_line : (x : ℕ) (parts : List (List ℕ)) → is_line_feed x ≡ false → All IsOneLine parts → All IsOneLine (onto_first x parts)
onto_one_line x [] plain all = All-cons IsOneLine (x ∷ []) [] (rw plain refl) (All-nil IsOneLine)
onto_one_line x (part ∷ parts) plain all =
    All-cons IsOneLine (x ∷ part) parts (rw plain (All-head IsOneLine part parts all)) (All-tail IsOneLine part parts all)

-- no line has a line feed
pub lines_one_line : (text : List ℕ) → All IsOneLine (lines text)
lines_one_line [] = All-cons IsOneLine [] [] refl (All-nil IsOneLine)
lines_one_line (x ∷ text) = cut x (lines text) (is_line_feed x) refl (lines_one_line text)
  where
    cut : (x : ℕ) (ls : List (List ℕ)) (b : Bool) → is_line_feed x ≡ b → All IsOneLine ls → All IsOneLine (cond b ([] ∷ ls) (onto_first x ls))
    cut x ls true e all = All-cons IsOneLine [] ls refl all
    cut x ls false e all = onto_one_line x ls e all

rest_one_line : (n : ℕ) (line : List ℕ) → IsOneLine line → IsOneLine (drop n line)
rest_one_line n line h =
    list_any_none is_line_feed (drop n line) (All-drop (λ (b : ℕ). is_line_feed b ≡ false) n line (none_passes is_line_feed line h))

-- what a value so far becomes at one pair more
next_value : (key : List ℕ) (found : Option (List ℕ)) (p : KeyValue) → IfSome found IsOneLine → IsOneLine p.value → IfSome (value_so_far key found p) IsOneLine
next_value key found p so_far here = go (bytes_eq p.key key)
  where
    go : (b : Bool) → IfSome (cond b (Some p.value) found) IsOneLine
    go true = here
    go false = so_far

value_from : (key : List ℕ) (ls : List (List ℕ)) → All IsOneLine ls → (number : ℕ) (found : Option (List ℕ)) → IfSome found IsOneLine
    → IfSome (fold (value_so_far key) found (filter_map result_ok (items_from number ls))) IsOneLine
value_from key [] all number found h = h
value_from key (line ∷ more) all number found h =
    let here = All-head IsOneLine line more all in
    at_line key line here number (items_from (next_number number) more) found h
    (value_from key more (All-tail IsOneLine line more all) (next_number number))
  where
    at_line : (key line : List ℕ) → IsOneLine line → (number : ℕ) (is : List (Result KeyValue ℕ)) (found : Option (List ℕ)) → IfSome found IsOneLine
        → ((found : Option (List ℕ)) → IfSome found IsOneLine → IfSome (fold (value_so_far key) found (filter_map result_ok is)) IsOneLine)
        → IfSome (fold (value_so_far key) found (filter_map result_ok (cond (length line == 0) is (cond (is_eof line) [] (item_of number line ∷ is))))) IsOneLine
    at_line key line here number is found h next = empty (length line == 0)
      where
        pair : (b : Bool) → IfSome (fold (value_so_far key) found (filter_map result_ok (cond b (Ok (record { key = take (position_or_len is_equals_sign line) line; value = after_first is_equals_sign line })) (Err number) ∷ is))) IsOneLine
        pair true = next _ (next_value key found (record { key = take (position_or_len is_equals_sign line) line; value = after_first is_equals_sign line }) h (rest_one_line (position_or_len is_equals_sign line + 1) line here))
        pair false = next found h

        eof : (b : Bool) → IfSome (fold (value_so_far key) found (filter_map result_ok (cond b [] (item_of number line ∷ is)))) IsOneLine
        eof true = h
        eof false = pair (is_some (position is_equals_sign line))

        empty : (b : Bool) → IfSome (fold (value_so_far key) found (filter_map result_ok (cond b is (cond (is_eof line) [] (item_of number line ∷ is))))) IsOneLine
        empty true = next found h
        empty false = eof (is_eof line)

-- the value of a key has no line feed
pub value_one_line : (key text : List ℕ) → IfSome (value_of key (pairs text)) IsOneLine
unfolding value_of
value_one_line key text = value_from key (lines text) (lines_one_line text) 1 None tt

pub lent_one_line : (found : Option (Bor (List ℕ))) → IfSome (option_map (λ value. value.now) found) IsOneLine → IfSome found (λ value. IsOneLine value.now)
lent_one_line None h = tt
lent_one_line (Some v) h = h
