-- Data text: bytes as a word of a script spells them.
use Rattle.std.specs.Prelude.{◌≡◌, ℕ, ◌+◌, ◌<◌, ◌≤◌, ◌==◌, ◌++◌, IfSome, take, slice_range, Bool, ◌&&◌, if◌then◌else◌, List, [], ◌∷◌, length, nat_lt, nat_le, replicate, slice_index, position, Option, Some, None, is_some}
use Rattle.std.specs.List.{slice_split, before_first, after_first}
use Rattle.std.specs.Option.{option_map}
use Rattle.std.specs.Result.{result_ok}
use Rattle.hex.specs.Hex.{decode_of, decode_sized}
use Rattle.decimal_numbers.specs.Number.{number_of}

-- the byte between two parts: `+`
abbrev pub is_plus : ℕ → Bool
is_plus byte = byte == 43

-- the byte between a count and what it counts: `*`
abbrev pub is_star : ℕ → Bool
is_star byte = byte == 42

-- the byte of two hexadecimal digits, in either case
unfoldable pub byte_of : List ℕ → Option ℕ
byte_of digits = option_map (λ bytes. slice_index bytes 0) (result_ok (decode_sized digits 1))

-- so many times this byte, 1 to 65,536 times
abbrev pub repeated : Option ℕ → Option ℕ → Option (List ℕ)
repeated (Some count) (Some byte) = if nat_le 1 count && nat_le count 65536 then Some (replicate count byte) else None
repeated (Some count) None = None
repeated None byte = None

-- the bytes of hexadecimal digits in either case, two a byte, at least one byte
unfoldable pub digits_of : List ℕ → Option (List ℕ)
digits_of part = if nat_lt 0 (length part) then result_ok (decode_of part) else None

-- the bytes of one part: `N*BB` is N bytes BB, and any other part is digits
unfoldable pub part_of : List ℕ → Option (List ℕ)
part_of part =
    if is_some (position is_star part)
    then repeated (number_of (before_first is_star part)) (byte_of (after_first is_star part))
    else digits_of part

-- the bytes of two texts, one after the other
abbrev pub appended : Option (List ℕ) → Option (List ℕ) → Option (List ℕ)
appended (Some front) (Some back) = Some (front ++ back)
appended (Some front) None = None
appended None back = None

-- the bytes of parts, one after the other
unfoldable pub parts_of : List (List ℕ) → Option (List ℕ)
parts_of [] = Some []
parts_of (part ∷ parts) = appended (part_of part) (parts_of parts)

-- bytes, if there are at most 65,536
abbrev pub within_bounds : Option (List ℕ) → Option (List ℕ)
within_bounds (Some bytes) = if nat_le (length bytes) 65536 then Some bytes else None
within_bounds None = None

-- the bytes that data text spells: the parts between its `+`, 1 to 65,536 bytes in all
unfoldable pub data_of : List ℕ → Option (List ℕ)
data_of word = within_bounds (parts_of (slice_split is_plus word))

-- these bytes, if there are any, don't fit in this much room from a place on
abbrev pub DoesNotFit : Option (List ℕ) → ℕ → ℕ → Type 0
DoesNotFit bytes room at = IfSome bytes (λ laid. room < at + length laid)

-- the bytes stand in the room from a place on up to an end, and what stands before them stays
pub record LaysAt (bytes : Option (List ℕ)) (old new : List ℕ) (at end : ℕ) : Type 0 where
  pub within : end ≤ length old
  pub more : at < end
  pub bytes_at : bytes ≡ Some (slice_range new at end)
  pub before : take at new ≡ take at old
