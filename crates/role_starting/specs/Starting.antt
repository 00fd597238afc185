-- The start of a manager: how far it is, and what each step does on every disk.
use Rattle.std.specs.Prelude.{◌≡◌, ℕ, ◌+◌, ◌-◌, ◌^◌, ◌<◌, min}
use Rattle.sd_names.specs.Turn.{MatchTurn}
use Rattle.sd_names.specs.declared.refusal.Refusal.{Refusal}
use Rattle.sd_names.specs.declared.turn.Turn.{Turn}
use Rattle.spm_role.specs.Start.{IsStartRefusal}
use Rattle.spm_role.specs.declared.spm.Spm.{Spm}
use Rattle.role_taking.specs.Asked.{Asked, IsAsked as IsTakingAsked, IsManagerAt, taking_left}
use Rattle.pool_recovering.specs.Recovering.{CallsMade as RecoveryCalls, IsBehindStep as IsBehindRecovery, MayRefuse as MayRefuseRecovery}
use Rattle.role_starting.specs.declared.starting.RoleStarting.{RoleStarting}
use Rattle.role_starting.specs.declared.starting.RoleStarting.TheVariants.{Taking, Recovering}

-- at its end a start has the manager, and how many tasks were open
abbrev pub StartTurn : Type 0
StartTurn = Turn RoleStarting (Spm × ℕ) (Unit {0})

-- ---- what was asked for

abbrev pub IsAsked : Asked → RoleStarting → Type 0
IsAsked a (Taking t) = IsTakingAsked a t
IsAsked a (Recovering spm r) = IsManagerAt a spm

-- a start stays as it was asked for, and ends with a manager that is so
abbrev pub StaysAsked : Asked → StartTurn → Type 0
StaysAsked a turn = MatchTurn turn (IsAsked a) (λ end. IsManagerAt a end.0) (λ _ _. Unit {0})

-- ---- on every disk

abbrev pub CallsMade : RoleStarting → ℕ → ℕ → Type 0
CallsMade (Taking t) calls calls' = calls' ≡ min (calls + 1) (2 ^ 64 - 1)
CallsMade (Recovering spm r) calls calls' = RecoveryCalls r calls calls'

abbrev pub MayRefuse : RoleStarting → Refusal → Type 0
MayRefuse (Taking t) refusal = IsStartRefusal refusal
MayRefuse (Recovering spm r) refusal = MayRefuseRecovery r refusal

-- A taking comes nearer to its end, and a recovery goes on. Behind a recovery nothing is taken any more.
abbrev pub IsBehindStep : RoleStarting → RoleStarting → Type 0
IsBehindStep (Taking t) (Taking next) = taking_left next < taking_left t
IsBehindStep (Taking t) (Recovering spm r) = Unit {0}
IsBehindStep (Recovering spm r) (Taking next) = ⊥
IsBehindStep (Recovering spm r) (Recovering same next) = IsBehindRecovery r next

abbrev pub Advances : RoleStarting → StartTurn → Type 0
Advances s turn = MatchTurn turn (IsBehindStep s) (λ _. Unit {0}) (λ _ _. Unit {0})
