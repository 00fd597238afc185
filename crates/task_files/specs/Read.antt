-- What reading a task's file answers.
use Rattle.std.specs.Prelude.{◌≡◌, ◌⊎◌, ℕ, ◌<◌, ◌≤◌, [], length, Option, Some, None, Result, Ok, Err}
use Rattle.sd_names.specs.declared.id.Id.{Id}
use Rattle.sd_names.specs.declared.place.Place.{Place}
use Rattle.sd_names.specs.declared.refusal.Refusal.{Refusal}
use Rattle.sd_names.specs.declared.refusal.Refusal.TheVariants.{DiskFault, OutOfMemory, TaskCorrupt, Vanished}
use Rattle.shared_disk.specs.Calls.{IsSame}
use Rattle.shared_disk.specs.Content.{Content, File, without}
use Rattle.task_store.specs.ReadTask.{task_of}
use Rattle.task_store.specs.declared.task.Task.{Task}
use Rattle.whole_file.specs.Text.{longest, text_of}

-- the refusals of a read: of the disk, of this task's text, and want of memory
abbrev pub IsReadRefusal : Id → Refusal → Type 0
IsReadRefusal id (DiskFault n) = Unit {0}
IsReadRefusal id (Vanished absence) = Unit {0}
IsReadRefusal id (TaskCorrupt t) = t ≡ id
IsReadRefusal id OutOfMemory = Unit {0}
IsReadRefusal id _ = ⊥

-- a host sees the text of this task in a file; one that is too long is none
pub record SeesTask (host : ℕ) (id : Id) (f : File) (t : Task) : Type 0 where
  pub short : length (text_of host f) ≤ longest
  pub task : task_of id (text_of host f) ≡ Some t

abbrev pub SeesNone : ℕ → Id → File → Type 0
SeesNone host id f = (longest < length (text_of host f)) ⊎ (task_of id (text_of host f) ≡ None)

-- What is answered of the file at a place, where no other host is writing it; `faults` is the disk's count after it.
abbrev pub Finds : Result (Option Task) Refusal → ℕ → Place → Id → ℕ → Content → Type 0
Finds (Ok None) host place id faults d = d.file place ≡ None
Finds (Ok (Some t)) host place id faults d = (f : File) × (d.file place ≡ Some f) × (without host f.loose ≡ [] → SeesTask host id f t)
Finds (Err (TaskCorrupt _)) host place id faults d = (f : File) × (d.file place ≡ Some f) × (without host f.loose ≡ [] → SeesNone host id f)
Finds (Err OutOfMemory) host place id faults d = (f : File) × (d.file place ≡ Some f) × (without host f.loose ≡ [] → (t : Task) × SeesTask host id f t)
Finds (Err refusal) host place id faults d = refusal ≡ DiskFault faults

-- nothing is changed by it
abbrev pub ReadsTask : ℕ → Place → Id → ℕ → Result (Option Task) Refusal → Content → Content → Type 0
ReadsTask host place id faults result d e = IsSame d e × Finds result host place id faults d
