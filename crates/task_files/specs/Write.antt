-- What a write of a task's file knows, and what each of its steps leaves.
use Rattle.std.specs.Prelude.{◌≡◌, ℕ, List, ◌∷◌, length, Some, None}
use Rattle.sd_names.specs.declared.place.Name.TheVariants as name
use Rattle.sd_names.specs.declared.place.Place.{Place}
use Rattle.sd_names.specs.declared.refusal.Refusal.TheVariants.{DiskFault}
use Rattle.sd_names.specs.declared.turn.Turn.{Turn}
use Rattle.sd_names.specs.declared.turn.Turn.TheVariants.{More, Done, Ended}
use Rattle.shared_disk.specs.Content.{Content}
use Rattle.task_store.specs.TaskText.{text_of}
use Rattle.task_store.specs.declared.task.Task.{Task}
use Rattle.task_files.specs.TaskFile.{HasOneOf, HasOneOnEach, HasTask, IsOldOr, IsOldOrOnEach}
use Rattle.task_files.specs.declared.write.TaskWrite.{TaskWrite}
use Rattle.whole_file.specs.Replace.{IsApart, IsLeft, IsSameReplace, length_of, replace_left, target_of}
use Rattle.whole_file.specs.Replace.{CallOf as ReplaceCall, Knows as KnowsReplace, stage_of as replace_stage, volatile_of as replace_volatile}
use Rattle.whole_file.specs.declared.replace.Replace.{Replace}
use Rattle.whole_file.specs.declared.replace.Stage.{Stage}

-- a write: into which file, by way of which file beside it, and how far it is, as a replacement of a small text
abbrev pub file_of : TaskWrite → Place
file_of w = target_of w.replace

abbrev pub volatile_of : TaskWrite → Place
volatile_of w = replace_volatile w.replace

abbrev pub stage_of : TaskWrite → Stage
stage_of w = replace_stage w.replace

abbrev pub write_left : TaskWrite → ℕ
write_left w = replace_left w.replace

-- the write is one of this task: into the file that has its name, and of a text as long as its
pub record IsFor (t : Task) (w : TaskWrite) : Type 0 where
  pub named : (file_of w).name ≡ name.Task t.id
  pub length : length (text_of t) ≡ length_of w.replace

-- a write into the same file, by the same way and of a text of the same length
abbrev pub IsSameWrite : TaskWrite → TaskWrite → Type 0
IsSameWrite w next = IsSameReplace w.replace next.replace

-- what is known of the folder and of the file beside the task's, by the stage
abbrev pub Knows : TaskWrite → ℕ → Task → Content → Type 0
Knows w host t d = KnowsReplace w.replace host (text_of t) d

-- a turn of a write, as one of its replacement
abbrev pub replacing : Turn TaskWrite (Unit {0}) (Unit {0}) → Turn Replace (Unit {0}) (Unit {0})
replacing (More w) = More w.replace
replacing (Done u) = Done u
replacing (Ended u refusal) = Ended u refusal

-- the call of a step, by its stage, whatever stands in the folder
abbrev pub CallOf : TaskWrite → ℕ → ℕ → Task → Turn TaskWrite (Unit {0}) (Unit {0}) → Content → Content → Type 0
CallOf w host faults t turn d e = ReplaceCall (stage_of w) w.replace host faults (text_of t) (replacing turn) d e

-- What a step's turn tells; `faults` is the disk's count after the step. Where there is more to do the task's file is as it
-- was. No refusal but the fault of the disk can come.
abbrev pub After : Turn TaskWrite (Unit {0}) (Unit {0}) → TaskWrite → ℕ → ℕ → Task → Content → Content → Type 0
After (More next) w host faults t d e = Knows next host t e × (e.file (file_of w) ≡ d.file (file_of w))
After (Done _) w host faults t d e = HasTask (file_of w) (Some t) e × (e.file (volatile_of w) ≡ None)
After (Ended _ refusal) w host faults t d e = (refusal ≡ DiskFault faults) × IsLeft host (volatile_of w) d e

-- What a step leaves of a folder of which the write knows what its stage says.
pub record WriteSteps (w : TaskWrite) (host faults : ℕ) (t : Task) (turn : Turn TaskWrite (Unit {0}) (Unit {0})) (d e : Content) : Type 0 where
  pub apart : IsApart (file_of w) (volatile_of w) d e
  pub file : IsOldOr (file_of w) (Some t) d e
  pub outcomes : IsOldOrOnEach (file_of w) (Some t) d e
  pub texts : (ts : List Task) → HasOneOf (file_of w) ts d → HasOneOnEach (file_of w) (t ∷ ts) e
  pub after : After turn w host faults t d e
