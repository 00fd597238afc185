-- The first of some answers.
use Rattle.std.proofs.Common.{◌≡◌, ◌⊎◌, ℕ, zero, suc, ◌<◌, Option, Some, None, refl, sym, ap, ◌∙◌, inl, inr, arith}
use Rattle.std.proofs.lemmas.Option.{none-some}
use Rattle.std.proofs.Math.Decide.{dec_lt}
use Rattle.lease_area.specs.Noted.{first_of, or_else}

-- the least number with an answer
pub record IsLeast {A : Type 0} (f : ℕ → Option A) (n : ℕ) (a : A) : Type 0 where
  pub k : ℕ
  pub below : k < n
  pub is : f k ≡ Some a
  pub before : (j : ℕ) → j < k → f j ≡ None

both_none : {A : Type 0} (a b : Option A) → or_else a b ≡ None → (a ≡ None) × (b ≡ None)
both_none None b is = (refl, is)
both_none (Some x) b is = absurd (none-some x (sym is))

pub first_none : {A : Type 0} (f : ℕ → Option A) (n : ℕ) → first_of f n ≡ None → (k : ℕ) → k < n → f k ≡ None
first_none f zero is k below = absurd (omega (arith, below))
first_none f (suc n) is k below =
    let parts = both_none (first_of f n) (f n) is in
    elim (last_or k n below) [ inl less ↦ first_none f n parts.0 k less | inr same ↦ ap f same ∙ parts.1 ]
  where
    last_or : (k n : ℕ) → k < suc n → (k < n) ⊎ (k ≡ n)
    last_or k n below = elim (dec_lt k n) [ yes less ↦ inl less | no above ↦ inr (omega arith) ]

some_cases : {A : Type 0} (f : ℕ → Option A) (n : ℕ) (a : A) (o : Option A) → first_of f n ≡ o → or_else o (f n) ≡ Some a → (first_of f n ≡ Some a → IsLeast f n a) → IsLeast f (suc n) a
some_cases f n a None none is more = record { k = n; below = omega arith; is = is; before = λ j below. first_none f n none j below }
some_cases f n a (Some x) some is more =
    let least = more (some ∙ is) in
    record { k = least.k; below = omega (arith, least.below); is = least.is; before = least.before }

pub first_least : {A : Type 0} (f : ℕ → Option A) (n : ℕ) (a : A) → first_of f n ≡ Some a → IsLeast f n a
first_least f zero a is = absurd (none-some a is)
first_least f (suc n) a is = some_cases f n a (first_of f n) refl is (first_least f n a)
