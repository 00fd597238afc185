-- The least sector that has an answer, over the sectors of one step more; and what a step reads of each sector.
use Rattle.std.proofs.Common.{◌≡◌, ◌⊎◌, ℕ, ◌+◌, ◌-◌, ◌<◌, ◌≤◌, Option, Some, None, refl, subst, inl, inr, arith}
use Rattle.std.proofs.Math.Decide.{dec_lt}
use Rattle.lease_area.specs.Noted.{first_of, or_else}
use Rattle.lease_area.specs.WholeScan.{IsLeast}
use Rattle.lease_area.proofs.First.{first_least, first_none}

-- What a step's answers tell of its 128 sectors: each answer is a sector's from 1 on, and each sector that has one gives
-- an answer, of those that were read.
pub record Tells {A : Type 0} (Has : ℕ → A → Type 0) (from n : ℕ) (g : ℕ → Option A) : Type 0 where
  pub sound : (k : ℕ) (a : A) → k < n → g k ≡ Some a → (0 < from + k) × Has (from + k) a
  pub whole : (k : ℕ) (a : A) → k < 128 → 0 < from + k → Has (from + k) a → (k < n) × ((g k ≡ None) → ⊥)
  pub few : n ≤ 128

in_step : (from j bound : ℕ) → bound ≡ from + 128 → j < bound → (j < from ⊎ ((k : ℕ) × (j ≡ from + k) × (k < 128)))
in_step from j bound is below = elim (dec_lt j from) [ yes less ↦ inl less | no above ↦ inr (j - from, omega (arith), omega (arith, is, below)) ]

-- none before this step and none in it
none_yet : {A : Type 0} (Has : ℕ → A → Type 0) (from n : ℕ) (g : ℕ → Option A) → Tells Has from n g → IsLeast Has from None → ((k : ℕ) → k < n → g k ≡ None)
    → (j : ℕ) (a : A) → 0 < j → (j < from ⊎ ((k : ℕ) × (j ≡ from + k) × (k < 128))) → Has j a → ⊥
none_yet Has from n g tells none all j a some (inl less) has = none j a some less has
none_yet {A} Has from n g tells none all j a some (inr (k, is, below)) has =
    let there = tells.whole k a below (subst (λ (x : ℕ). 0 < x) is some) (subst (λ (x : ℕ). Has x a) is has) in
    there.1 (all k there.0)

-- no sector before the first of this step that has an answer
before_first : {A : Type 0} (Has : ℕ → A → Type 0) (from n m : ℕ) (g : ℕ → Option A) → Tells Has from n g → IsLeast Has from None → ((i : ℕ) → i < m → g i ≡ None)
    → (j : ℕ) (a : A) → 0 < j → j < from + m → m < n → (j < from ⊎ ((k : ℕ) × (j ≡ from + k) × (k < 128))) → Has j a → ⊥
before_first Has from n m g tells none all j a some below within (inl less) has = none j a some less has
before_first Has from n m g tells none all j a some below within (inr (k, is, fits)) has =
    (tells.whole k a fits (subst (λ (x : ℕ). 0 < x) is some) (subst (λ (x : ℕ). Has x a) is has)).1 (all k (omega (arith, is, below)))

first_here : {A : Type 0} (Has : ℕ → A → Type 0) (from n : ℕ) (g : ℕ → Option A) → Tells Has from n g → IsLeast Has from None → (o : Option A) → first_of g n ≡ o → IsLeast Has (from + 128) o
first_here Has from n g tells none None is = λ j a some below has. none_yet Has from n g tells none (first_none g n is) j a some (in_step from j (from + 128) refl below) has
first_here Has from n g tells none (Some a) is =
    let least = first_least g n a is in
    let sound = tells.sound least.k a least.below least.is in
    let fits : from + least.k < from + 128 = omega (arith, least.below, tells.few) in (
      from + least.k,
      sound.0,
      fits,
      sound.1,
      λ j b some below has.
          before_first Has from n least.k g tells none least.before j b some below least.below (in_step from j (from + 128) refl (omega (arith, below, fits))) has,
    )

pub one_step_more : {A : Type 0} (Has : ℕ → A → Type 0) (from n : ℕ) (g : ℕ → Option A) (before : Option A) → Tells Has from n g → IsLeast Has from before
    → IsLeast Has (from + 128) (or_else before (first_of g n))
one_step_more Has from n g None tells none = first_here Has from n g tells none (first_of g n) refl
one_step_more Has from n g (Some a) tells least = (least.0, least.1, omega (arith, least.2), least.3, least.4)
