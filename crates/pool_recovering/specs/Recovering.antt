-- The recovery of a pool: how far it is, and what each step does on every disk.
use Rattle.std.specs.Prelude.{◌≡◌, ◌⊎◌, ℕ, ◌+◌, ◌-◌, ◌^◌, ◌<◌, min, List, length, Option, Some, None}
use Rattle.sd_names.specs.Turn.{MatchTurn}
use Rattle.sd_names.specs.declared.id.Id.{Id}
use Rattle.sd_names.specs.declared.refusal.Refusal.{Refusal}
use Rattle.sd_names.specs.declared.refusal.Refusal.TheVariants.{NotBuilt, OutOfMemory}
use Rattle.sd_names.specs.declared.turn.Turn.{Turn}
use Rattle.sd_names.specs.declared.turn.Turn.TheVariants.{Ended}
use Rattle.spm_role.specs.Spm.{domains_of, lease_of, master_of, pool_of}
use Rattle.spm_role.specs.declared.spm.Spm.{Spm}
use Rattle.task_store.specs.declared.task.Task.{Task}
use Rattle.image_removing.specs.Falls.{Costs}
use Rattle.task_listing.specs.Listing.{IsBegun as IsListingBegun, IsNext, MayRefuse as MayRefuseListing, Noted, stage_of as listing_stage}
use Rattle.task_settling.specs.Falls.{IsNearer}
use Rattle.task_settling.specs.Settling.{CallsMade as SettlingCalls, IsBehind, IsUnbuilt, MayRefuse as MayRefuseSettling, settled_of, stage_of, task_of}
use Rattle.pool_recovering.specs.declared.recovering.PoolRecovery.{PoolRecovery}
use Rattle.pool_recovering.specs.declared.recovering.PoolRecovery.TheVariants.{Listing, Settling}

abbrev pub RecoveryTurn : Type 0
RecoveryTurn = Turn PoolRecovery ℕ (Unit {0})

abbrev pub IsBegun : Id → PoolRecovery → Type 0
IsBegun sd (Listing l) = IsListingBegun sd l
IsBegun sd (Settling t s) = ⊥

-- ---- on every disk

abbrev pub CallsMade : PoolRecovery → ℕ → ℕ → Type 0
CallsMade (Listing l) calls calls' = calls' ≡ min (calls + 1) (2 ^ 64 - 1)
CallsMade (Settling t s) calls calls' = SettlingCalls (stage_of s) calls calls'

-- Beside the refusals of a listing its end may find no room for the tasks, or a step of the open one that isn't built.
abbrev pub MayRefuse : PoolRecovery → Refusal → Type 0
MayRefuse (Listing l) refusal = MayRefuseListing (listing_stage l) refusal ⊎ ((refusal ≡ OutOfMemory) ⊎ (refusal ≡ NotBuilt))
MayRefuse (Settling t s) refusal = MayRefuseSettling (stage_of s) refusal

-- A listing goes on to the names above, and a settling of the same task comes nearer to its end. Behind a settling nothing is
-- listed any more.
abbrev pub IsBehindStep : PoolRecovery → PoolRecovery → Type 0
IsBehindStep (Listing l) (Listing next) = IsNext (listing_stage l) (listing_stage next)
IsBehindStep (Listing l) (Settling t next) = (task_of next).id ≡ t
IsBehindStep (Settling t s) (Listing next) = ⊥
IsBehindStep (Settling t s) (Settling u next) = (u ≡ t) × ((cost : Costs) → IsNearer cost (stage_of s) (task_of s) (settled_of s) next)

abbrev pub Advances : PoolRecovery → RecoveryTurn → Type 0
Advances r turn = MatchTurn turn (IsBehindStep r) (λ _. Unit {0}) (λ _ _. Unit {0})

-- the manager is as before, but for its tasks
pub record IsOnlyListed (spm next : Spm) : Type 0 where
  pub master : master_of next ≡ master_of spm
  pub pool : pool_of next ≡ pool_of spm
  pub domains : domains_of next ≡ domains_of spm
  pub lease : lease_of next ≡ lease_of spm

-- its tasks are as before too, where more is listed or settled
abbrev pub IsListKept : PoolRecovery → PoolRecovery → List Noted → List Noted → Type 0
IsListKept (Listing l) (Settling t s) before after = Unit {0}
IsListKept _ next before after = after ≡ before

-- and where the step was refused
abbrev pub KeepsList : PoolRecovery → List Noted → RecoveryTurn → List Noted → Type 0
KeepsList r before turn after = MatchTurn turn (λ next. IsListKept r next before after) (λ _. Unit {0}) (λ _ _. after ≡ before)

-- ---- behind the listing

-- the open task's settling has begun
abbrev pub IsSettlingOf : Id → Task → PoolRecovery → Type 0
IsSettlingOf master x (Listing l) = ⊥
IsSettlingOf master x (Settling t s) = (t ≡ x.id) × IsBehind master x (length x.steps) s

-- The manager's tasks are those that were listed. None is open, or the open one is settled; that is refused where it can't be.
abbrev pub IsListed : Id → List Noted → Option Task → List Noted → RecoveryTurn → List Noted → Type 0
IsListed master ts None before turn after = MatchTurn turn (λ _. ⊥) (λ n. (n ≡ 0) × (after ≡ ts)) (λ _ _. ⊥)
IsListed master ts (Some x) before turn after =
    MatchTurn turn (λ next. IsSettlingOf master x next × (after ≡ ts)) (λ _. ⊥) (λ _ refusal. IsUnbuilt x refusal × (after ≡ before))

-- or there are more than a manager has room for
abbrev pub IsTooMany : List Noted → List Noted → RecoveryTurn → List Noted → Type 0
IsTooMany ts before turn after = (128 < length ts) × (turn ≡ Ended tt OutOfMemory) × (after ≡ before)

abbrev pub HasListed : Id → List Noted → Option Task → List Noted → RecoveryTurn → List Noted → Type 0
HasListed master ts o before turn after = IsListed master ts o before turn after ⊎ IsTooMany ts before turn after
