-- Where a test first passes in a list.
use Rattle.std.proofs.Common.{◌≡◌, ℕ, ◌<◌, Bool, true, false, not, List, length, refl, ◌∙◌, arith, position, Some, None, ltb}
use Rattle.std.specs.List.{position_or_len}
use Rattle.std.proofs.lemmas.List.Sums.{prefix_len-le-length}
use Rattle.std.proofs.lemmas.Bool.{ltb-true, ltb-false}

-- a place that is found
pub position_some : (p : ℕ → Bool) (xs : List ℕ) (n : ℕ) → Some n ≡ position p xs → (n ≡ position_or_len p xs) × (n < length xs)
position_some p xs n e = go (ltb (position_or_len p xs) (length xs)) refl
  where
    go : (v : Bool) → ltb (position_or_len p xs) (length xs) ≡ v → (n ≡ position_or_len p xs) × (n < length xs)
    go true t =
        let same : Some n ≡ Some (position_or_len p xs) = e ∙ rw t refl in
        let place : n ≡ position_or_len p xs = cc in
        (place, omega (arith, ltb-true (position_or_len p xs) (length xs) t))
    go false t = let none : Some n ≡ None = e ∙ rw t refl in absurd (let b : ⊥ = cc in b)

-- no place is found
pub position_none : (p : ℕ → Bool) (xs : List ℕ) → None ≡ position p xs → position_or_len p xs ≡ length xs
position_none p xs e = go (ltb (position_or_len p xs) (length xs)) refl
  where
    go : (v : Bool) → ltb (position_or_len p xs) (length xs) ≡ v → position_or_len p xs ≡ length xs
    go true t = let none : None ≡ Some (position_or_len p xs) = e ∙ rw t refl in absurd (let b : ⊥ = cc in b)
    go false t =
        omega (arith, ltb-false (position_or_len p xs) (length xs) t, prefix_len-le-length (λ x. not (p x)) xs)
