-- The lines of a script.
use Rattle.std.specs.Prelude.{◌≡◌, ◌≢◌, ℕ, List, [], ◌∷◌, ◌++◌, All}
use Rattle.std.specs.List.{flat_map}

-- a line with the LF that ends it
abbrev pub ended : List ℕ → List ℕ
ended line = line ++ 10 ∷ []

-- no byte ends a line
abbrev pub HasNoLf : List ℕ → Type 0
HasNoLf bytes = All (λ byte. byte ≢ 10) bytes

-- the bytes are these lines, each ended by an LF, and then what has come of the next
pub record Cut (bytes : List ℕ) (lines : List (List ℕ)) (open_line : List ℕ) : Type 0 where
  pub whole : bytes ≡ flat_map ended lines ++ open_line
  pub each : All HasNoLf lines
  pub rest : HasNoLf open_line

-- all lines: the last may lack its LF
abbrev pub all_lines : List (List ℕ) → List ℕ → List (List ℕ)
all_lines lines [] = lines
all_lines lines (byte ∷ bytes) = lines ++ (byte ∷ bytes) ∷ []
