-- A number, as std's `parse` reads it, and as `decimal` writes it.
use Rattle.std.proofs.Common.{◌≡◌, ℕ, ◌<◌, ◌≤◌, ◌^◌, Bool, true, false, ◌&&◌, List, length, refl, ap, arith, rules, decimal, Some, None, Result, Ok, Err, ltb, leb, le-leb, lt-ltb}
use Rattle.std.specs.List.{list_all}
use Rattle.std.specs.Char.{is_ascii_digit}
use Rattle.std.specs.Result.{result_ok, OkIff}
use Rattle.std.specs.Str.{IsUtf8}
use Rattle.std.specs.Str.Parse.{digits_value, ParsesUnsigned}
use Rattle.std.proofs.lemmas.Str.{IsUtf8-from_ascii}
use Rattle.std.proofs.lemmas.Str.Parse.{IsNumeralModel, numerals_by_value, parse_digits}
use Rattle.std.proofs.lemmas.Fmt.{IsAscii-from_digits, decimal_nonempty, length-decimal-le, digits_decimal, digits_value-decimal}
use Rattle.std.proofs.lemmas.Bool.{and_parts, leb-true, ltb-true, ltb-false}
use Rattle.decimal_numbers.specs.Number.{is_numeral, number_of}

pub own : IsNumeralModel (λ ds. list_all is_ascii_digit ds ≡ true) (digits_value 10)
own = numerals_by_value _ (search rules)

-- what is known of a numeral
digits_from : (bs : List ℕ) → is_numeral bs ≡ true → (0 < length bs) × (list_all is_ascii_digit bs ≡ true)
digits_from bs e =
    let outer = and_parts (leb 1 (length bs) && leb (length bs) 20) (list_all is_ascii_digit bs) e in
    let inner = and_parts (leb 1 (length bs)) (leb (length bs) 20) outer.0 in
    (omega (arith, leb-true 1 (length bs) inner.0), outer.1)

-- a numeral is text
pub numeral_utf8 : (bs : List ℕ) → is_numeral bs ≡ true → IsUtf8 bs
numeral_utf8 bs e = IsUtf8-from_ascii bs (IsAscii-from_digits bs (own.to bs (digits_from bs e).1))

answer : {E : Type 0} (bs : List ℕ) (r : Result ℕ E) → OkIff r ((0 < length bs) × (digits_value 10 bs < 2 ^ 64)) (digits_value 10 bs)
    → 0 < length bs → is_numeral bs ≡ true → (v : Bool) → ltb (digits_value 10 bs) (2 ^ 64) ≡ v → result_ok r ≡ number_of bs
unfolding number_of
answer bs (Ok x) h some e true t = rw (e, t) (ap Some h.1)
answer bs (Ok x) h some e false t = absurd (omega (arith, h.0.1, ltb-false (digits_value 10 bs) (2 ^ 64) t))
answer bs (Err x) h some e true t = absurd (h (some, ltb-true (digits_value 10 bs) (2 ^ 64) t))
answer bs (Err x) h some e false t = rw (e, t) refl

-- and what `parse` answers is its number
pub number_parsed : {E : Type 0} (bs : List ℕ) (r : Result ℕ E) → ParsesUnsigned 64 10 bs r → is_numeral bs ≡ true → result_ok r ≡ number_of bs
number_parsed bs r h e =
    let parts = digits_from bs e in answer bs r (parse_digits own 64 bs r h parts.1) parts.0 e (ltb (digits_value 10 bs) (2 ^ 64)) refl

-- no other word has a number
pub number_none : (bs : List ℕ) → is_numeral bs ≡ false → None ≡ number_of bs
unfolding number_of
number_none bs e = rw e refl

-- 2 ^ 64 has 20 digits
twenty : (n : ℕ) → n < 2 ^ 64 → n < 10 ^ 20
twenty n h = omega arith

pub decimal_short : (n : ℕ) → n < 2 ^ 64 → length (decimal n) ≤ 20
decimal_short n h = length-decimal-le 20 n (omega arith) (twenty n h) h

decimal_is_numeral : (n : ℕ) → n < 2 ^ 64 → is_numeral (decimal n) ≡ true
decimal_is_numeral n h =
    let some : leb 1 (length (decimal n)) ≡ true = le-leb 1 (length (decimal n)) (decimal_nonempty n h) in
    let few : leb (length (decimal n)) 20 ≡ true = le-leb (length (decimal n)) 20 (decimal_short n h) in
    rw (some, few) (digits_decimal own n h)

-- a number reads as itself
pub number_of-decimal : (n : ℕ) → n < 2 ^ 64 → number_of (decimal n) ≡ Some n
unfolding number_of
number_of-decimal n h =
    rw (decimal_is_numeral n h, digits_value-decimal own n h, lt-ltb n (2 ^ 64) h) refl
