-- What the manager of a pool knows while it settles a task.
-- Claim: it is true after each of its steps, and stays true beside other hosts.
use Rattle.std.specs.Prelude.{◌≡◌, ℕ, All, Some, drop}
use Rattle.sd_names.specs.Place.{NameHasIds}
use Rattle.sd_names.specs.declared.id.Id.{Id}
use Rattle.sd_names.specs.declared.place.Dir.{Dir}
use Rattle.sd_names.specs.declared.place.Name.{Name}
use Rattle.shared_disk.specs.Content.{Content}
use Rattle.shared_disk.specs.NameCalls.{ShowsName}
use Rattle.task_store.specs.declared.task.Task.{Task}
use Rattle.task_store.specs.declared.undo.Undo.{Undo}
use Rattle.task_files.specs.TaskFile.{task_place, volatile_place}
use Rattle.task_files.specs.Write.{Knows as KnowsWrite, file_of, volatile_of}
use Rattle.task_files.specs.declared.write.TaskWrite.{TaskWrite}
use Rattle.image_clearing.specs.Clearing.{domain_of, image_of}
use Rattle.image_clearing.specs.Knowing.{Knows as KnowsClearing}
use Rattle.image_clearing.specs.declared.clearing.ImageClearing.{ImageClearing}
use Rattle.pool_model.specs.Leases.{Leads}
use Rattle.pool_model.specs.Pool.{Pool}
use Rattle.pool_model.specs.Tasks.{IsOpen, IsStepDone}
use Rattle.task_settling.specs.Settling.{IsLastOf, cleared_by, master_of, settled_of, stage_of, task_of}
use Rattle.task_settling.specs.declared.settling.Stage.{Stage}
use Rattle.task_settling.specs.declared.settling.Stage.TheVariants.{Clearing, Writing}
use Rattle.task_settling.specs.declared.settling.TaskSettling.{TaskSettling}

-- The identifiers of the names on the disk have sixteen bytes, as all of a program have.
abbrev pub HaveIds : Content → Type 0
HaveIds d = (q : Dir) (n : Name) → ShowsName d q n → NameHasIds n

-- the host is the manager of the pool with this master, and the task is open
pub record KnowsTask (h : ℕ) (master : Id) (task : Task) (p : Pool) : Type 0 where
  pub master_is : p.master ≡ Some master
  pub leads : Leads p h
  pub opened : IsOpen p task.id task

-- nothing is left to do of the steps behind the first so many
abbrev pub AreDoneBehind : ℕ → Task → Pool → Type 0
AreDoneBehind count task p = All (IsStepDone p) (drop count task.steps)

-- the image of the last of so many steps is cleared away
pub record ClearsLast (count : ℕ) (task : Task) (c : ImageClearing) (d : Content) (p : Pool) : Type 0 where
  pub step : Undo
  pub last : IsLastOf task.steps count step
  pub clears : cleared_by step ≡ Some (domain_of c, image_of c)
  pub behind : AreDoneBehind count task p
  pub clearing : KnowsClearing c d

-- the text of the task that is settled is written into its file
pub record WritesSettled (h : ℕ) (master : Id) (task settled : Task) (w : TaskWrite) (d : Content) (p : Pool) : Type 0 where
  pub file : file_of w ≡ task_place master settled.id
  pub volatile : volatile_of w ≡ volatile_place master settled.id
  pub behind : AreDoneBehind 0 task p
  pub write : KnowsWrite w h settled d

abbrev pub KnowsStage : Stage → ℕ → Id → Task → Task → Content → Pool → Type 0
KnowsStage (Clearing count c) h master task settled d p = ClearsLast count task c d p
KnowsStage (Writing w) h master task settled d p = WritesSettled h master task settled w d p

abbrev pub Knows : ℕ → TaskSettling → Content → Pool → Type 0
Knows h t d p = KnowsTask h (master_of t) (task_of t) p × KnowsStage (stage_of t) h (master_of t) (task_of t) (settled_of t) d p
