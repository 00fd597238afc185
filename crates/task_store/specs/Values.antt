-- The values of a step: a capacity, and the word of a description.
use Rattle.std.specs.Prelude.{◌≡◌, ℕ, ◌≤◌, ◌==◌, ◌%◌, ◌^◌, Bool, true, ◌&&◌, if◌then◌else◌, List, length, nat_le, decimal, Option, Some, None}
use Rattle.std.specs.Char.{is_ascii_graphic}
use Rattle.std.specs.List.{list_all}
use Rattle.std.specs.Option.{option_and_then}
use Rattle.std.specs.Str.{bytes_eq}
use Rattle.decimal_numbers.specs.Number.{number_of}

-- a capacity in bytes: a multiple of 512, 512 to 1 TiB
pub record IsCapacity (n : ℕ) : Type 0 where
  pub blocks : n % 512 ≡ 0
  pub least : 512 ≤ n
  pub most : n ≤ 2 ^ 40

-- the capacity of a word: its digits, without zeros in front
unfoldable pub capacity_of : List ℕ → Option ℕ
capacity_of word =
    option_and_then
    (λ n. if (n % 512 == 0) && nat_le 512 n && nat_le n (2 ^ 40) && bytes_eq word (decimal n) then Some n else None)
    (number_of word)

-- the bytes that a word of a script line can have
abbrev pub is_printed : List ℕ → Bool
is_printed word = list_all is_ascii_graphic word

-- the word of a description, as a script line has it: 1 to 200 bytes
pub record IsDescription (word : List ℕ) : Type 0 where
  pub some : 1 ≤ length word
  pub few : length word ≤ 200
  pub printed : is_printed word ≡ true

unfoldable pub description_of : List ℕ → Option (List ℕ)
description_of word =
    if nat_le 1 (length word) && nat_le (length word) 200 && is_printed word then Some word else None
