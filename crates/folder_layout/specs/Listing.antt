-- What a folder lists next, from the names that the system gives.
use Rattle.std.specs.Prelude.{◌≡◌, ◌≢◌, ℕ, suc, ◌-◌, ◌<◌, ◌≤◌, List, length, get_or, take, drop, Option, Some, None}
use Rattle.std.specs.declared.cmp.Ordering.{Ordering}
use Rattle.std.specs.declared.cmp.Ordering.TheVariants.{Less, Greater}

-- A name stands from one place of a piece to another, at which a zero byte ends it. It begins the piece, or a zero
-- byte stands before it.
pub record IsNameIn (piece : List ℕ) (start stop : ℕ) : Type 0 where
  pub ordered : start ≤ stop
  pub within : stop < length piece
  pub ends : get_or piece stop 0 ≡ 0
  pub plain : (k : ℕ) → start ≤ k → k < stop → get_or piece k 0 ≢ 0
  pub begins : (k : ℕ) → start ≡ suc k → get_or piece k 0 ≡ 0

-- the bytes from one place to another
abbrev pub name_in : List ℕ → ℕ → ℕ → List ℕ
name_in piece start stop = take (stop - start) (drop start piece)

-- the entry is above this one, where there is one
abbrev pub IsAbove : {E : Type 0} → (E → E → Ordering) → Option E → E → Type 0
IsAbove order None entry = Unit {0}
IsAbove order (Some after) entry = order after entry ≡ Less

-- what a listing answers is above what it was asked
abbrev pub AnswersAbove : {E : Type 0} → (E → E → Ordering) → Option E → Option E → Type 0
AnswersAbove order after None = Unit {0}
AnswersAbove order after (Some entry) = IsAbove order after entry

-- there is a least entry so far, and it isn't above this one
abbrev pub IsAtMost : {E : Type 0} → (E → E → Ordering) → Option E → E → Type 0
IsAtMost order None entry = ⊥
IsAtMost order (Some least) entry = order least entry ≢ Greater

-- the piece has a name under which the entry stands, which is above this one
pub record IsListed {E : Type 0} (order : E → E → Ordering) (stands : List ℕ → E → Type 0) (after : Option E) (piece : List ℕ) (entry : E) : Type 0 where
  pub start : ℕ
  pub stop : ℕ
  pub name : IsNameIn piece start stop
  pub standing : stands (name_in piece start stop) entry
  pub above : IsAbove order after entry
