-- Laws of settlings, as statements.
use Rattle.std.specs.Prelude.{◌≡◌, ◌≢◌, ℕ, ◌≤◌, true, length}
use Rattle.sd_names.specs.UpSet.{Hosts, is_up}
use Rattle.sd_names.specs.declared.id.Id.{Id}
use Rattle.shared_disk.specs.Content.{Content}
use Rattle.shared_disk.specs.Crash.{DownLeaves}
use Rattle.task_store.specs.declared.task.Task.{Task}
use Rattle.pool_model.specs.Downs.{DownPool}
use Rattle.pool_model.specs.Owned.{OwnedChange, OwnedPool}
use Rattle.pool_model.specs.Pool.{Pool}
use Rattle.pool_model.specs.Standing.{Stands}
use Rattle.pool_model.specs.Verb.{Verb}
use Rattle.task_settling.specs.Knowing.{HaveIds, Knows, KnowsTask}
use Rattle.task_settling.specs.Settling.{IsBehind}
use Rattle.task_settling.specs.declared.settling.TaskSettling.{TaskSettling}

-- a settling that has begun knows all that it has to, where its host is the manager and its task is open
abbrev pub BegunKnow : Type 0
BegunKnow =
    (up : Hosts) (d : Content) (p : Pool) (h : ℕ) (master : Id) (task : Task) (t : TaskSettling) → Stands up d p → HaveIds d → KnowsTask h master task p
    → IsBehind master task (length task.steps) t → Knows h t d p

-- Host h, which isn't this one and runs this verb, changes only what it may; the disk stands for the pool before that and after it.
pub record IsBeside (up : Hosts) (v : Verb) (h g : ℕ) (d e : Content) (p q : Pool) : Type 0 where
  pub stands : Stands up d p
  pub stands_now : Stands up e q
  pub change : OwnedChange h up v p d e
  pub owned : OwnedPool h up p q
  pub apart : g ≢ h
  pub some : 1 ≤ g
  pub alive : is_up up g ≡ true

-- what the manager, host g, knows while it settles a task stays true beside that
abbrev pub OthersKeepSettlings : Type 0
OthersKeepSettlings = (up : Hosts) (v : Verb) (h g : ℕ) (d e : Content) (p q : Pool) (t : TaskSettling) → IsBeside up v h g d e p q → Knows g t d p → Knows g t e q

-- and where another host goes down
abbrev pub DownsKeepSettlings : Type 0
DownsKeepSettlings =
    (up : Hosts) (h g : ℕ) (d e : Content) (p q : Pool) (t : TaskSettling) → Stands up d p → DownLeaves d h e → DownPool h p q → g ≢ h → Knows g t d p → Knows g t e q
