-- One step of a host: what it answers, and what it leaves.
-- Claim: on every disk that stands for a pool of which the host's memory speaks truly, a step is a turn of the pool's machine.
use Rattle.std.specs.Prelude.{◌≡◌, ℕ, ◌+◌, ◌-◌, ◌^◌, ◌≤◌, min, List, [], Option, Some, None, Result, Ok, Err}
use Rattle.std.specs.Option.{option_map}
use Rattle.sd_names.specs.UpSet.{Hosts}
use Rattle.sd_names.specs.declared.id.Id.{Id}
use Rattle.sd_names.specs.declared.refusal.Refusal.{Refusal}
use Rattle.sd_names.specs.declared.verb.Payload.{Payload}
use Rattle.sd_names.specs.declared.verb.Payload.TheVariants as payload
use Rattle.shared_disk.specs.Content.{Content}
use Rattle.shared_disk.specs.Step.{IsDiskRefusal}
use Rattle.lease_area.specs.Hold.{IsGivingRefusal}
use Rattle.task_files.specs.Read.{IsReadRefusal}
use Rattle.pool_model.specs.Covered.{Keeps}
use Rattle.pool_model.specs.Laws.{tasks_without}
use Rattle.pool_model.specs.Lines.{Counted}
use Rattle.pool_model.specs.Owned.{OwnedChange, OwnedPool}
use Rattle.pool_model.specs.Pool.{Pool}
use Rattle.pool_model.specs.Standing.{Stands}
use Rattle.pool_model.specs.State.{Kept}
use Rattle.pool_model.specs.Turns.{Answer, HostTurns, done, more, refused}
use Rattle.host_core.specs.Knows.{HostKnows}
use Rattle.host_core.specs.Memory.{Leader, Memory}
use Rattle.host_core.specs.State.{state_of, verb_of}
use Rattle.host_core.specs.declared.progress.Progress.{Progress}
use Rattle.host_core.specs.declared.progress.Progress.TheVariants.{More, Done}
use Rattle.host_core.specs.declared.progress.Reply.{Reply}
use Rattle.host_core.specs.declared.progress.Reply.TheVariants as reply
use Rattle.host_core.specs.declared.work.Work.{Work}
use Rattle.host_core.specs.declared.work.Work.TheVariants as work

-- ---- answers

-- the bytes that an answer gives: those of a read
abbrev pub given : Payload → List ℕ → List ℕ
given (payload.Read count) bytes = bytes
given _ bytes = []

abbrev pub answer_by : Reply → List ℕ → Answer
answer_by (reply.Ok payload) bytes = done payload (given payload bytes)
answer_by (reply.Refused e) bytes = refused e

abbrev pub answer_of : Progress → List ℕ → Answer
answer_of More bytes = more
answer_of (Done r) bytes = answer_by r bytes

-- ---- on every disk

-- What a step does to the counts of the disk: one call at most, and a fault is answered only where the count rose or stands
-- at its end, with the count after it.
pub record ProgressCounts (faults faults' calls calls' : ℕ) (answer : Answer) : Type 0 where
  pub one_call : calls' ≤ calls + 1
  pub no_less : faults ≤ faults'
  pub cause : Counted answer faults faults'

-- whether a list of the tasks needs the file of one
abbrev pub Reads : Option Id → ℕ → ℕ → Type 0
Reads None calls calls' = calls' ≡ calls
Reads (Some t) calls calls' = calls' ≡ min (calls + 1) (2 ^ 64 - 1)

abbrev pub ReadsBy : Option Leader → ℕ → ℕ → Type 0
ReadsBy None calls calls' = ⊥
ReadsBy (Some l) calls calls' = Reads l.begun calls calls'

-- how many calls a step makes: one, but that the tasks of a manager without a task in doubt are listed without one
abbrev pub CallsMade : Option Work → Option Leader → ℕ → ℕ → Type 0
CallsMade (Some work.Tasks) leading calls calls' = ReadsBy leading calls calls'
CallsMade _ leading calls calls' = calls' ≡ min (calls + 1) (2 ^ 64 - 1)

-- which refusals a step of a verb may give
abbrev pub MayRefuse : Option Work → Refusal → Type 0
MayRefuse None e = ⊥
MayRefuse (Some work.Stop) e = IsGivingRefusal e
MayRefuse (Some (work.Clear t)) e = IsDiskRefusal e
MayRefuse (Some work.Tasks) e = (t : Id) × IsReadRefusal t e

abbrev pub RefusesOnly : Option Work → Answer → Type 0
RefusesOnly w (refused e) = MayRefuse w e
RefusesOnly w _ = Unit {0}

-- what is answered, by what the removal of the task's file answered
abbrev pub clear_progress : Result (Unit {0}) Refusal → Progress
clear_progress (Ok _) = Done (reply.Ok payload.ClearTask)
clear_progress (Err e) = Done (reply.Refused e)

-- what a manager keeps once it was answered about the task's file: without the task, or in doubt of it
abbrev pub cleared : Id → Progress → Leader → Leader
cleared t More l = l
cleared t (Done (reply.Ok payload)) l = record l { tasks = tasks_without t l.tasks }
cleared t (Done (reply.Refused e)) l = record l { begun = Some t }

-- What a step leaves in the host's memory, whatever the disk holds. A host that gives its role back isn't the manager
-- afterwards, whatever was answered. One that clears a task doesn't have it in its list any more, or is in doubt of it.
abbrev pub Leaves : Option Work → Memory → Progress → Memory → Type 0
Leaves None x r y = ⊥
Leaves (Some work.Stop) x More y = ⊥
Leaves (Some work.Stop) x (Done r) y = y ≡ record x { leading = None; work = None }
Leaves (Some (work.Clear t)) x More y = ⊥
Leaves (Some (work.Clear t)) x (Done r) y = y ≡ record x { leading = option_map (cleared t (Done r)) x.leading; work = None }
Leaves (Some work.Tasks) x More y = ⊥
Leaves (Some work.Tasks) x (Done r) y = y ≡ record x { work = None }

-- ---- on a disk that stands for a pool

-- the change from d to e is one that a host with this verb may make
abbrev pub IsOwned : Option Work → ℕ → Hosts → Pool → Content → Content → Type 0
IsOwned None h up p d e = ⊥
IsOwned (Some w) h up p d e = OwnedChange h up (verb_of w) p d e

-- A step of the host took the disk from d, which stands for p, to e: that stands for a pool that a turn of the machine
-- reaches, which fits the answer. What the host keeps is true of it, and nothing was changed that isn't the host's to change.
pub record Stepped (up : Hosts) (k : Kept) (x : Memory) (d : Content) (p : Pool) (answer : Answer) (y : Memory) (e : Content) : Type 0 where
  pub pool : Pool
  pub kept : Kept
  pub turns : HostTurns x.id up (state_of k x) p answer (state_of kept y) pool
  pub stands : Stands up e pool
  pub knows : HostKnows kept y pool
  pub keeps : Keeps up e pool
  pub owned : IsOwned x.work x.id up p d e
  pub changes : OwnedPool x.id up p pool

abbrev pub HostSteps : Hosts → Memory → Content → Answer → Memory → Content → Type 0
HostSteps up x d answer y e = (k : Kept) (p : Pool) → Stands up d p → HostKnows k x p → Stepped up k x d p answer y e
