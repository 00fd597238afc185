-- Texts of keys and values: lines that are cut at each line feed, with a key before the first `=` of a
-- line and its value behind it.
use Rattle.std.specs.Prelude.{◌≡◌, ℕ, ◌+◌, ◌-◌, ◌^◌, min, Bool, false, List, [], ◌∷◌, ◌++◌, length, is_some, Result, Ok, Err, codes, if◌then◌else◌, ◌==◌}
use Rattle.std.specs.List.{slice_split, before_first, after_first, list_any, filter_map, flat_map, position}
use Rattle.std.specs.Result.{result_ok}
use Rattle.std.specs.Str.{bytes_eq}

-- a key and its value, each a list of bytes
pub record KeyValue : Type 0 where
  pub key : List ℕ
  pub value : List ℕ

abbrev pub is_line_feed : ℕ → Bool
is_line_feed byte = byte == 10

abbrev pub is_equals_sign : ℕ → Bool
is_equals_sign byte = byte == 61

-- the lines of a text: what stands between its line feeds
abbrev pub lines : List ℕ → List (List ℕ)
lines text = slice_split is_line_feed text

-- the line that ends the pairs of a text
abbrev pub is_eof : List ℕ → Bool
is_eof line = bytes_eq line (codes "EOF")

-- line numbers begin at 1 and stay at 2 ^ 32 - 1
abbrev pub next_number : ℕ → ℕ
next_number number = min (number + 1) (2 ^ 32 - 1)

-- what a line has that is neither empty nor `EOF`: a pair, or, without `=`, nothing but its number
abbrev pub item_of : ℕ → List ℕ → Result KeyValue ℕ
item_of number line =
    if is_some (position is_equals_sign line)
    then Ok (record { key = before_first is_equals_sign line; value = after_first is_equals_sign line })
    else Err number

-- what stands on these lines up to the first line `EOF`, where the first of them has this number
abbrev pub items_from : ℕ → List (List ℕ) → List (Result KeyValue ℕ)
items_from number [] = []
items_from number (line ∷ more) =
    if length line == 0 then items_from (next_number number) more
    else if is_eof line then []
    else item_of number line ∷ items_from (next_number number) more

-- what stands on the lines of a text, up to the first line `EOF`
abbrev pub items : List ℕ → List (Result KeyValue ℕ)
items text = items_from 1 (lines text)

-- the pairs of a text
abbrev pub pairs : List ℕ → List KeyValue
pairs text = filter_map result_ok (items text)

-- one of the lines is `EOF`
abbrev pub has_eof : List ℕ → Bool
has_eof text = list_any is_eof (lines text)

-- a line as it is written, with its line feed
abbrev pub line : List ℕ → List ℕ → List ℕ
line key value = key ++ 61 ∷ value ++ 10 ∷ []

-- the line of a pair, without its line feed
abbrev pub whole : KeyValue → List ℕ
whole p = p.key ++ 61 ∷ p.value

-- the lines of pairs, one behind the other
abbrev pub text_of : List KeyValue → List ℕ
text_of ps = flat_map (λ p. line p.key p.value) ps

-- bytes without a line feed, as each value of a text is
abbrev pub IsOneLine : List ℕ → Type 0
IsOneLine bytes = list_any is_line_feed bytes ≡ false

-- a pair whose line is read as this pair
pub record IsWritable (p : KeyValue) : Type 0 where
  pub key : IsOneLine p.key
  pub divided : list_any is_equals_sign p.key ≡ false
  pub value : IsOneLine p.value
