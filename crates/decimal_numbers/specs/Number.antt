-- Decimal numbers.
use Rattle.std.specs.Prelude.{ℕ, ◌^◌, Bool, ◌&&◌, if◌then◌else◌, List, length, nat_lt, nat_le, Option, Some, None}
use Rattle.std.specs.Char.{is_ascii_digit}
use Rattle.std.specs.List.{list_all}
use Rattle.std.specs.Str.Parse.{digits_value}

-- whether a word has 1 to 20 bytes, each a decimal digit
abbrev pub is_numeral : List ℕ → Bool
is_numeral word = nat_le 1 (length word) && nat_le (length word) 20 && list_all is_ascii_digit word

-- the number of 1 to 20 decimal digits, zeros in front among them, that is below 2 ^ 64
unfoldable pub number_of : List ℕ → Option ℕ
number_of word =
    if is_numeral word && nat_lt (digits_value 10 word) (2 ^ 64) then Some (digits_value 10 word) else None
