-- Settling an open task: what it is about, how far it is, and which refusals may come.
use Rattle.std.specs.Prelude.{◌≡◌, ℕ, ◌+◌, ◌-◌, ◌^◌, min, List, [], ◌∷◌, ◌++◌, Contains, Option, Some, None, take}
use Rattle.sd_names.specs.declared.id.Id.{Id}
use Rattle.sd_names.specs.declared.refusal.Refusal.{Refusal}
use Rattle.sd_names.specs.declared.refusal.Refusal.TheVariants.{NotBuilt}
use Rattle.sd_names.specs.declared.task_state.TaskState.{TaskState}
use Rattle.sd_names.specs.declared.turn.Turn.{Turn}
use Rattle.shared_disk.specs.Step.{IsDiskRefusal}
use Rattle.task_store.specs.declared.task.Task.{Task}
use Rattle.task_store.specs.declared.undo.Undo.{Undo}
use Rattle.task_store.specs.declared.undo.Undo.TheVariants as undo
use Rattle.task_files.specs.TaskFile.{task_place, volatile_place}
use Rattle.task_files.specs.Write.{file_of, stage_of as write_stage, volatile_of}
use Rattle.task_files.specs.declared.write.TaskWrite.{TaskWrite}
use Rattle.whole_file.specs.declared.replace.Stage.TheVariants as replacing
use Rattle.image_clearing.specs.Clearing.{CallsMade as ClearingCalls, IsBegun as IsClearingBegun, MayRefuse as MayBeRefused, stage_of as clearing_stage}
use Rattle.image_clearing.specs.declared.clearing.ImageClearing.{ImageClearing}
use Rattle.task_settling.specs.declared.settling.Stage.{Stage}
use Rattle.task_settling.specs.declared.settling.Stage.TheVariants.{Clearing, Writing}
use Rattle.task_settling.specs.declared.settling.TaskSettling.{TaskSettling}

abbrev pub SettleTurn : Type 0
SettleTurn = Turn TaskSettling TaskState (Unit {0})

-- the master domain, the open task, that task once it is settled, and the stage
abbrev pub master_of : TaskSettling → Id
master_of t = t.master

abbrev pub task_of : TaskSettling → Task
task_of t = t.task

abbrev pub settled_of : TaskSettling → Task
settled_of t = t.settled

abbrev pub stage_of : TaskSettling → Stage
stage_of t = t.stage

-- ---- steps

-- the image that a step clears away, with its domain; the steps of verbs that aren't built clear none
abbrev pub cleared_by : Undo → Option (Id × Id)
cleared_by (undo.RemoveImage sd i) = Some (sd, i)
cleared_by (undo.FinishRemove sd i) = Some (sd, i)
cleared_by _ = None

-- the last of the first so many steps
abbrev pub IsLastOf : List Undo → ℕ → Undo → Type 0
IsLastOf steps count step = (before : List Undo) × (take count steps ≡ before ++ step ∷ [])

-- ---- the stages

-- the settling of this task, in this stage
pub record IsAt (master : Id) (task settled : Task) (now : Stage) (next : TaskSettling) : Type 0 where
  pub master_is : master_of next ≡ master
  pub task_is : task_of next ≡ task
  pub settled_is : settled_of next ≡ settled
  pub now_in : stage_of next ≡ now

-- the write of the settled task's text has begun
pub record IsWriteBegun (master : Id) (settled : Task) (w : TaskWrite) : Type 0 where
  pub file : file_of w ≡ task_place master settled.id
  pub volatile : volatile_of w ≡ volatile_place master settled.id
  pub stage : write_stage w ≡ replacing.Begun

-- the clearing of the last step's image has begun
pub record IsLastBegun (steps : List Undo) (count : ℕ) (c : ImageClearing) : Type 0 where
  pub step : Undo
  pub last : IsLastOf steps count step
  pub sd : Id
  pub image : Id
  pub clears : cleared_by step ≡ Some (sd, image)
  pub begun : IsClearingBegun sd image c

-- of so many steps the last one is settled next; where there is none the text is written
abbrev pub IsStageBehind : Id → Task → Task → ℕ → Stage → Type 0
IsStageBehind master task settled count (Clearing n c) = (n ≡ count) × IsLastBegun task.steps count c
IsStageBehind master task settled count (Writing w) = (take count task.steps ≡ []) × IsWriteBegun master settled w

pub record IsBehind (master : Id) (task : Task) (count : ℕ) (next : TaskSettling) : Type 0 where
  pub master_is : master_of next ≡ master
  pub task_is : task_of next ≡ task
  pub stage : IsStageBehind master task (settled_of next) count (stage_of next)

-- a step of the task clears no image
pub record IsUnbuilt (task : Task) (refusal : Refusal) : Type 0 where
  pub is : refusal ≡ NotBuilt
  pub step : Undo
  pub among : Contains task.steps step
  pub clears : cleared_by step ≡ None

-- ---- counts and refusals

abbrev pub CallsMade : Stage → ℕ → ℕ → Type 0
CallsMade (Clearing count c) calls calls' = ClearingCalls (clearing_stage c) calls calls'
CallsMade (Writing w) calls calls' = calls' ≡ min (calls + 1) (2 ^ 64 - 1)

-- those of clearing the image, and that a step is of a verb that isn't built
abbrev pub MayClear : ImageClearing → Refusal → Type 0
MayClear c NotBuilt = Unit {0}
MayClear c refusal = MayBeRefused (clearing_stage c) refusal

abbrev pub MayRefuse : Stage → Refusal → Type 0
MayRefuse (Clearing count c) refusal = MayClear c refusal
MayRefuse (Writing w) refusal = IsDiskRefusal refusal
