-- The words in which every stepper says what one of its steps does. A step makes at most one call of the disk and hands
-- back a turn; a call that works in one step answers a result. What a step leaves of the content is the stepper's own.
use Rattle.std.specs.Prelude.{◌≡◌, ℕ, ◌+◌, ◌<◌, ◌≤◌, Result, Err, MatchResult}
use Rattle.sd_names.specs.Turn.{MatchTurn}
use Rattle.sd_names.specs.declared.refusal.Refusal.{Refusal}
use Rattle.sd_names.specs.declared.refusal.Refusal.TheVariants.{DiskFault, Vanished}
use Rattle.sd_names.specs.declared.turn.Turn.{Turn}
use Rattle.sd_names.specs.declared.turn.Turn.TheVariants.{Ended}
use Rattle.shared_disk.specs.Refusal.{IsRisen, refusal_of}
use Rattle.shared_disk.specs.declared.disk.DiskAnswer.{DiskAnswer}

-- What a step does to the count of faults: a fault is answered only where the count rose or stands at its end, with the
-- count after it, and any other turn leaves the count as it was, so that no fault of the disk is dropped.
abbrev pub TurnFaults : {S T B : Type 0} → ℕ → ℕ → Turn S T B → Type 0
TurnFaults faults faults' turn = MatchTurn turn (λ _. faults' ≡ faults) (λ _. faults' ≡ faults) (λ _ refusal. IsRisen faults faults' refusal)

-- the same of work that answers a result, in however many calls
abbrev pub ResultFaults : {T : Type 0} → ℕ → ℕ → Result T Refusal → Type 0
ResultFaults faults faults' result = MatchResult result (λ _. faults' ≡ faults) (λ refusal. IsRisen faults faults' refusal)

-- What a step does to the counts of the disk, on every disk: at most one call is made, and the count of faults never falls
-- and tells of each fault.
pub record StepCounts {S T B : Type 0} (faults faults' calls calls' : ℕ) (turn : Turn S T B) : Type 0 where
  pub one_call : calls' ≤ calls + 1
  pub no_less : faults ≤ faults'
  pub cause : TurnFaults faults faults' turn

-- the same of what answers a result
pub record ResultCounts {T : Type 0} (faults faults' calls calls' : ℕ) (result : Result T Refusal) : Type 0 where
  pub one_call : calls' ≤ calls + 1
  pub no_less : faults ≤ faults'
  pub cause : ResultFaults faults faults' result

-- a refusal that stands for an answer of the disk: 120 or 122
abbrev pub IsDiskRefusal : Refusal → Type 0
IsDiskRefusal (DiskFault n) = Unit {0}
IsDiskRefusal (Vanished absence) = Unit {0}
IsDiskRefusal _ = ⊥

-- a step that ends by a refusal ends by one of these
abbrev pub EndsOnlyBy : {S T B : Type 0} → (Refusal → Type 0) → Turn S T B → Type 0
EndsOnlyBy P turn = MatchTurn turn (λ _. Unit {0}) (λ _. Unit {0}) (λ _ refusal. P refusal)

-- there is more to do, by a stepper of which this holds
abbrev pub GoesOn : {S T B : Type 0} → (S → Type 0) → Turn S T B → Type 0
GoesOn P turn = MatchTurn turn P (λ _. ⊥) (λ _ _. ⊥)

-- there is nothing more to do
abbrev pub IsLast : {S T B : Type 0} → Turn S T B → Type 0
IsLast turn = MatchTurn turn (λ _. ⊥) (λ _. Unit {0}) (λ _ _. Unit {0})

-- Where there is more to do, this holds of the next stepper, of which fewer steps are left. `left` says how many steps a
-- stepper takes at the most, and `now` is what it says of the one that made this step.
abbrev pub NearsEnd : {S T B : Type 0} → (S → Type 0) → (S → ℕ) → ℕ → Turn S T B → Type 0
NearsEnd P left now turn = MatchTurn turn (λ next. P next × (left next < now)) (λ _. 0 < now) (λ _ _. 0 < now)

-- The answer of a step's call decides its turn: where the call did its work, `Next` holds of what it answered; any other
-- answer ends the step by the refusal for that answer, with the count of faults after it.
abbrev pub TurnFollows : {A S T : Type 0} → Result A DiskAnswer → ℕ → Turn S T (Unit {0}) → (A → Type 0) → Type 0
TurnFollows answer faults turn Next = MatchResult answer Next (λ refused. turn ≡ Ended tt (refusal_of refused faults))

-- the same of what answers a result
abbrev pub ResultFollows : {A T : Type 0} → Result A DiskAnswer → ℕ → Result T Refusal → (A → Type 0) → Type 0
ResultFollows answer faults result Next = MatchResult answer Next (λ refused. result ≡ Err (refusal_of refused faults))
