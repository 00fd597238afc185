-- What a text says as a whole: the value of a key, its first line that is no pair, and whether `EOF` closes it.
use Rattle.std.specs.Prelude.{ℕ, List, [], ◌∷◌, Option, Some, None, Result, Ok, Err, fold, if◌then◌else◌}
use Rattle.std.specs.Str.{bytes_eq}
use Rattle.kv_text.specs.Text.{KeyValue}

-- the value of a key, where `found` is its value so far and one pair more is met
abbrev pub value_so_far : List ℕ → Option (List ℕ) → KeyValue → Option (List ℕ)
value_so_far key found pair = if bytes_eq pair.key key then Some pair.value else found

-- the value of a key: that of the last pair that has it
unfoldable pub value_of : List ℕ → List KeyValue → Option (List ℕ)
value_of key pairs = fold (value_so_far key) None pairs

-- the number of the first line that is neither empty nor a pair
abbrev pub first_bad_line : List (Result KeyValue ℕ) → Option ℕ
first_bad_line [] = None
first_bad_line (Ok _ ∷ more) = first_bad_line more
first_bad_line (Err number ∷ more) = Some number
