-- One step of a settling, on a disk that stands for a pool.
-- Claim: what it changes are changes of the mark `settle` of the pool's machine, which has come to its end at `Done`.
use Rattle.std.specs.Prelude.{◌≡◌, ◌≢◌, ◌⊎◌, ℕ, ◌+◌, List, ◌∷◌, Contains, true, Some, None}
use Rattle.sd_names.specs.UpSet.{Hosts, is_up}
use Rattle.sd_names.specs.declared.id.Id.{Id}
use Rattle.sd_names.specs.declared.refusal.Refusal.TheVariants.{DiskFault}
use Rattle.sd_names.specs.declared.task_state.TaskState.{TaskState}
use Rattle.sd_names.specs.declared.turn.Turn.TheVariants.{More, Done, Ended}
use Rattle.shared_disk.specs.Content.{Content}
use Rattle.task_store.specs.declared.task.Task.{Task}
use Rattle.task_store.specs.declared.undo.Undo.{Undo}
use Rattle.lease_area.specs.declared.sector.LeaseRecord.{LeaseRecord}
use Rattle.lease_area.specs.declared.sector.Sector.TheVariants.{Empty}
use Rattle.pool_model.specs.Covered.{Keeps}
use Rattle.pool_model.specs.Leases.{NamesAt}
use Rattle.pool_model.specs.Marks.{Mark, repeat, settle}
use Rattle.pool_model.specs.Owned.{OwnedChange, OwnedPool}
use Rattle.pool_model.specs.Pool.{Pool, put_image, put_sector, put_task}
use Rattle.pool_model.specs.Rules.{Maker, Passing}
use Rattle.pool_model.specs.Standing.{Stands}
use Rattle.pool_model.specs.Tasks.{NoneOpen, SettledState, ended_task}
use Rattle.pool_model.specs.Verb.{Verb}
use Rattle.task_settling.specs.Knowing.{HaveIds, Knows}
use Rattle.task_settling.specs.Settling.{SettleTurn, cleared_by, task_of}
use Rattle.task_settling.specs.declared.settling.TaskSettling.{TaskSettling}

-- Of any verb whose next mark settles, with these marks behind it and so many tasks settled before: the mark stays as long as
-- there is more to do, passes once the task is settled, which is one more, and stays or not where the disk failed.
abbrev pub Passes : Maker → List Mark → ℕ → Pool → SettleTurn → Pool → Type 0
Passes c ms n p (More next) q = Passing c (repeat settle ∷ ms) n p (repeat settle ∷ ms) n q
Passes c ms n p (Done state) q = Passing c (repeat settle ∷ ms) n p ms (n + 1) q
Passes c ms n p (Ended _ refusal) q = (m : ℕ) × Passing c (repeat settle ∷ ms) n p (repeat settle ∷ ms) m q

-- At its end no task is open, and this one has the state that is answered. No refusal but the disk's fault can come.
abbrev pub After : ℕ → Task → ℕ → SettleTurn → Content → Pool → Type 0
After h task faults (More next) e q = Knows h next e q
After h task faults (Done state) e q = NoneOpen q × ((q.task task.id ≡ Some (ended_task state task)) × SettledState task.steps state)
After h task faults (Ended _ refusal) e q = refusal ≡ DiskFault faults

-- an image that is changed is one that a step of the task clears away
abbrev pub ChangesOnly : Task → Pool → Pool → Type 0
ChangesOnly task p q = (sd i : Id) → (q.image sd i ≡ p.image sd i) ⊎ ((step : Undo) × Contains task.steps step × (cleared_by step ≡ Some (sd, i)))

-- an image is gone, and its sector is empty
abbrev pub DropsImage : Pool → Pool → Type 0
DropsImage p q = (sd : Id) × ((i : Id) × ((k : ℕ) × ((r : LeaseRecord) × NamesAt p sd i k r × (q ≡ put_sector (put_image p sd i None) sd k Empty))))

-- the pool is as it was, but that an image is gone with its sector, or that the task is settled
abbrev pub IsSettlingChange : Task → Pool → Pool → Type 0
IsSettlingChange task p q = (q ≡ p) ⊎ (DropsImage p q ⊎ ((s : TaskState) × (q ≡ put_task p task.id (Some (ended_task s task)))))

-- A step took the disk from d, which stands for p, to e: that stands for a pool which moves of the machine reach, and which fits the
-- answer. What the host keeps is true of it, and nothing was changed that isn't the host's to change, whatever verb it runs.
pub record Stepped (h : ℕ) (up : Hosts) (task : Task) (faults : ℕ) (turn : SettleTurn) (d : Content) (p : Pool) (e : Content) : Type 0 where
  pub pool : Pool
  pub passes : (c : Maker) (ms : List Mark) (n : ℕ) → Passes c ms n p turn pool
  pub stands : Stands up e pool
  pub after : After h task faults turn e pool
  pub keeps : Keeps up e pool
  pub owned : (v : Verb) → OwnedChange h up v p d e
  pub changes : OwnedPool h up p pool
  pub images : ChangesOnly task p pool
  pub tasks : (t : Id) → t ≢ task.id → pool.task t ≡ p.task t
  pub only : IsSettlingChange task p pool

abbrev pub SettlesTask : TaskSettling → ℕ → ℕ → SettleTurn → Content → Content → Type 0
SettlesTask t h faults turn d e = (up : Hosts) (p : Pool) → is_up up h ≡ true → Stands up d p → HaveIds d → Knows h t d p → Stepped h up (task_of t) faults turn d p e
