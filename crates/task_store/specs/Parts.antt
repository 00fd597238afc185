-- The parts of a text between delimiters.
use Rattle.std.specs.Prelude.{ℕ, ◌==◌, Bool, List, [], ◌∷◌, Option, Some, None}
use Rattle.std.specs.Borrow.{Bor}
use Rattle.std.specs.List.{slice_split}

abbrev pub is_byte : ℕ → ℕ → Bool
is_byte byte b = b == byte

-- the parts of what is left of a text; none where nothing is left
abbrev pub parts_left : ℕ → Option (Bor (List ℕ)) → List (List ℕ)
parts_left delimiter (Some rest) = slice_split (is_byte delimiter) rest.now
parts_left delimiter None = []

-- the first part, and those behind it
abbrev pub first_part : List (List ℕ) → Option (List ℕ × List (List ℕ))
first_part [] = None
first_part (part ∷ parts) = Some (part, parts)
