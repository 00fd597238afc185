-- What a removal of a task's file leaves.
use Rattle.std.specs.Prelude.{◌≡◌, ◌≢◌, ℕ, List, None, Result, Ok, Err}
use Rattle.sd_names.specs.declared.absence.Absence.TheVariants as absence
use Rattle.sd_names.specs.declared.place.Dir.{Dir}
use Rattle.sd_names.specs.declared.place.Place.{Place}
use Rattle.sd_names.specs.declared.refusal.Refusal.{Refusal}
use Rattle.sd_names.specs.declared.refusal.Refusal.TheVariants.{DiskFault, Vanished}
use Rattle.shared_disk.specs.Calls.{IsSame}
use Rattle.shared_disk.specs.Content.{Content}
use Rattle.shared_disk.specs.NameCalls.{IsRemoved, Removes}
use Rattle.shared_disk.specs.Step.{ResultFollows}
use Rattle.shared_disk.specs.declared.disk.DiskAnswer.{DiskAnswer}
use Rattle.task_files.specs.TaskFile.{HasOneOf, HasOneOnEach, IsOldOr, IsOldOrOnEach}
use Rattle.task_store.specs.declared.task.Task.{Task}

-- one call, whatever stands in the folder: some answer that fits the call, and what is answered follows from it
abbrev pub RemovesTask : Place → ℕ → Result (Unit {0}) Refusal → Content → Content → Type 0
RemovesTask place faults result d e =
    (answer : Result (Unit {0}) DiskAnswer) × Removes d place answer e × ResultFollows answer faults result (λ _. result ≡ Ok tt)

-- What the answer tells: the file was there and is gone, or none was; no other refusal comes but the fault of the disk.
abbrev pub AfterRemoval : Result (Unit {0}) Refusal → Place → ℕ → Content → Content → Type 0
AfterRemoval (Ok _) place faults d e = IsRemoved d place e
AfterRemoval (Err (Vanished absence.NoFile)) place faults d e = IsSame d e × (d.file place ≡ None)
AfterRemoval (Err refusal) place faults d e = refusal ≡ DiskFault faults

-- all but the place is as it was
pub record IsApartFrom (place : Place) (d e : Content) : Type 0 where
  pub dirs : (q : Dir) → e.dir q ≡ d.dir q
  pub files : (q : Place) → q ≢ place → e.file q ≡ d.file q

pub record RemoveLeaves (place : Place) (faults : ℕ) (result : Result (Unit {0}) Refusal) (d e : Content) : Type 0 where
  pub apart : IsApartFrom place d e
  pub file : IsOldOr place None d e
  pub outcomes : IsOldOrOnEach place None d e
  pub texts : (ts : List Task) → HasOneOf place ts d → HasOneOnEach place ts e
  pub after : AfterRemoval result place faults d e
