-- One step of a recovery, on a disk that stands for a pool.
-- Claim: what it changes are changes of the mark `settle` of the pool's machine, which has come to its end at `Done`.
use Rattle.std.specs.Prelude.{◌≡◌, ◌⊎◌, ℕ, ◌+◌, ◌≤◌, List, ◌∷◌, true, Some}
use Rattle.sd_names.specs.UpSet.{Hosts, is_up}
use Rattle.sd_names.specs.declared.id.Id.{Id}
use Rattle.sd_names.specs.declared.refusal.Refusal.TheVariants.{DiskFault, OutOfMemory}
use Rattle.sd_names.specs.declared.turn.Turn.TheVariants.{More, Done, Ended}
use Rattle.shared_disk.specs.Content.{Content}
use Rattle.task_store.specs.declared.task.Task.{Task}
use Rattle.pool_model.specs.Covered.{Keeps}
use Rattle.pool_model.specs.Leases.{IsGuest, IsTasked}
use Rattle.pool_model.specs.Marks.{Mark, repeat, settle}
use Rattle.pool_model.specs.Owned.{OwnedChange, OwnedPool}
use Rattle.pool_model.specs.Pool.{Image, Pool, Side}
use Rattle.pool_model.specs.Rules.{Maker, Passing}
use Rattle.pool_model.specs.Standing.{Stands}
use Rattle.pool_model.specs.Tasks.{AreTasks, IsOpen, NoneOpen}
use Rattle.pool_model.specs.Verb.{Verb}
use Rattle.task_listing.specs.Listing.{Noted}
use Rattle.task_settling.specs.Knowing.{HaveIds}
use Rattle.pool_recovering.specs.Knowing.{Knows}
use Rattle.pool_recovering.specs.Recovering.{RecoveryTurn}
use Rattle.pool_recovering.specs.declared.recovering.PoolRecovery.{PoolRecovery}

-- Of any verb whose next mark settles, with these marks behind it and so many tasks settled before: the mark stays as long as
-- there is more to do, passes once no task is open, with as many tasks more as were, and stays where the step is refused.
abbrev pub Passes : Maker → List Mark → ℕ → Pool → RecoveryTurn → Pool → Type 0
Passes c ms n p (More next) q = Passing c (repeat settle ∷ ms) n p (repeat settle ∷ ms) n q
Passes c ms n p (Done count) q = Passing c (repeat settle ∷ ms) n p ms (n + count) q
Passes c ms n p (Ended _ refusal) q = (m : ℕ) × Passing c (repeat settle ∷ ms) n p (repeat settle ∷ ms) m q

-- At its end no task is open, and the manager's tasks are the pool's. It is refused for want of memory and at the disk's fault alone.
abbrev pub After : ℕ → Id → List Noted → ℕ → RecoveryTurn → Content → Pool → Type 0
After h master tasks faults (More next) e q = Knows h master tasks next e q
After h master tasks faults (Done count) e q = NoneOpen q × AreTasks q tasks
After h master tasks faults (Ended _ refusal) e q = (refusal ≡ OutOfMemory) ⊎ (refusal ≡ DiskFault faults)

-- What a recovery leaves of the pool: the role, the domains and the boxes are as they were; a task that changes was open; nobody
-- is given an image, as a guest or for a task; and what there is of an image is what there was.
pub record Leaves (p q : Pool) : Type 0 where
  pub master : q.master ≡ p.master
  pub role : (sd : Id) → q.sector sd 0 ≡ p.sector sd 0
  pub domains : (sd : Id) → q.domain sd ≡ p.domain sd
  pub strays : (sd : Id) → q.stray sd ≡ p.stray sd
  pub boxes : (side : Side) (sd : Id) (g : ℕ) → q.box side sd g ≡ p.box side sd g
  pub tasks : (t : Id) → (q.task t ≡ p.task t) ⊎ ((x : Task) × IsOpen p t x)
  pub guests : (sd i : Id) (g : ℕ) → 1 ≤ g → IsGuest q sd i g → IsGuest p sd i g
  pub tasked : (sd i : Id) → IsTasked q sd i → IsTasked p sd i
  pub images : (sd i : Id) (m : Image) → q.image sd i ≡ Some m → p.image sd i ≡ Some m

-- A step took the disk from d, which stands for p, to e: that stands for a pool which moves of the machine reach, and which fits
-- the answer. What the host keeps, with these tasks, is true of it, and nothing was changed that isn't the host's to change.
pub record Stepped (h : ℕ) (up : Hosts) (master : Id) (tasks : List Noted) (faults : ℕ) (turn : RecoveryTurn) (d : Content) (p : Pool) (e : Content) : Type 0 where
  pub pool : Pool
  pub passes : (c : Maker) (ms : List Mark) (n : ℕ) → Passes c ms n p turn pool
  pub stands : Stands up e pool
  pub after : After h master tasks faults turn e pool
  pub keeps : Keeps up e pool
  pub owned : (v : Verb) → OwnedChange h up v p d e
  pub changes : OwnedPool h up p pool
  pub leaves : Leaves p pool

abbrev pub RecoversPool : PoolRecovery → ℕ → Id → List Noted → ℕ → RecoveryTurn → List Noted → Content → Content → Type 0
RecoversPool r h master before faults turn after d e =
    (up : Hosts) (p : Pool) → is_up up h ≡ true → Stands up d p → HaveIds d → Knows h master before r d p → Stepped h up master after faults turn d p e
