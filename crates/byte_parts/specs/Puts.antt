-- A part that is written into a block of which only the front is written.
use Rattle.std.specs.Prelude.{◌≡◌, ℕ, ◌+◌, List, ◌++◌, length, replicate}

-- where zeros stand from `at` on, the part stands there afterwards, and zeros behind it
abbrev pub Puts : ℕ → List ℕ → List ℕ → List ℕ → Type 0
Puts at part old new =
    (front : List ℕ) (left zeros : ℕ) → length front ≡ at → zeros ≡ length part + left → old ≡ front ++ replicate zeros 0 → new ≡ front ++ part ++ replicate left 0
