-- What a read and a write of a stream do to the bytes that it tells.
use Rattle.std.specs.Prelude.{◌≡◌, ℕ, ◌<◌, ◌≤◌, ◌-◌, ◌^◌, ◌⊎◌, List, [], ◌++◌, take, length, Option, Some, Result, Ok, Err, MatchResult}
use Rattle.sd_names.specs.declared.turn.Failed.{Failed}

-- a count of faults rose, or stands at its end
abbrev pub Rose : ℕ → ℕ → Type 0
Rose before after = (before < after) ⊎ (after ≡ 2 ^ 64 - 1)

-- a call that succeeds leaves the count of faults as it was, and one that fails raises it
abbrev pub Faults : {T : Type 0} → ℕ → ℕ → Result T Failed → Type 0
Faults before after result = MatchResult result (λ _. after ≡ before) (λ _. Rose before after)

-- a count of faults never falls and never passes 2^64 - 1, and rises in a call that fails alone
pub record Counts (before after : ℕ) (result : Result ℕ Failed) : Type 0 where
  pub no_less : before ≤ after
  pub fits : after < 2 ^ 64
  pub cause : Faults before after result

-- The next bytes stand at the front of the room. None for room that isn't empty is the end.
abbrev pub Reads : List ℕ → List ℕ → List ℕ → ℕ → Result ℕ Failed → Type 0
Reads before after room size (Ok count) = (before ≡ take count room ++ after) × (count ≡ 0 → 0 < size → before ≡ [])
Reads before after room size (Err e) = after ≡ before

-- bytes from the front of the piece were taken
abbrev pub Writes : List ℕ → List ℕ → List ℕ → Result ℕ Failed → Type 0
Writes before after piece (Ok count) = after ≡ before ++ take count piece
Writes before after piece (Err e) = after ≡ before

-- a source that tells its bytes has given these, from the front of what it had
abbrev pub Took : Option (List ℕ) → Option (List ℕ) → List ℕ → Type 0
Took left left' bytes = (before : List ℕ) → left ≡ Some before → (after : List ℕ) × (left' ≡ Some after) × (before ≡ bytes ++ after)

-- a source that tells its bytes has none left
abbrev pub IsSpent : Option (List ℕ) → Option (List ℕ) → Type 0
IsSpent left left' = (before : List ℕ) → left ≡ Some before → left' ≡ Some []

-- a sink that tells its bytes has got these behind them
abbrev pub Gave : Option (List ℕ) → Option (List ℕ) → List ℕ → Type 0
Gave given given' bytes = (before : List ℕ) → given ≡ Some before → given' ≡ Some (before ++ bytes)

-- a front of the text was given, and at least one byte wasn't
pub record IsCut (given given' : Option (List ℕ)) (text : List ℕ) : Type 0 where
  pub front : List ℕ
  pub lost : List ℕ
  pub text_is : text ≡ front ++ lost
  pub some_lost : 0 < length lost
  pub gave : Gave given given' front
