-- What stands of an image that is deleted, now and whatever crashes leave: it is there, or an open task removes it, or it is gone.
use Rattle.std.specs.Prelude.{◌⊎◌, ℕ}
use Rattle.shared_disk.specs.Content.{Content}
use Rattle.shared_disk.specs.Crash.{IsOutcome}
use Rattle.image_creating.specs.Sectors.{IsUnnamed}
use Rattle.image_removing.specs.Steps.{IsGone}
use Rattle.image_deleting.specs.RemovalTask.{HasHeld, HasNone, IsDone, IsOpen, domain_of, image_of}
use Rattle.image_deleting.specs.Sectors.{HasNamed}
use Rattle.image_deleting.specs.declared.deleting.Stage.{Stage}
use Rattle.image_deleting.specs.declared.deleting.Stage.TheVariants.{Scanning, Taking, Opening, Removing, Clearing, Ending}
use Rattle.image_deleting.specs.declared.removal_task.RemovalTask.{RemovalTask}

-- The image's sector names it, and the task has no text.
pub record IsUntaken (t : RemovalTask) (d : Content) : Type 0 where
  pub task : HasNone t d
  pub sector : HasNamed (domain_of t) (image_of t) d

-- Its sector is held for a task, which has no text yet.
pub record IsTaken (t : RemovalTask) (host : ℕ) (d : Content) : Type 0 where
  pub task : HasNone t d
  pub sector : HasHeld t host d

-- The task is open, and the sector is held for it; of the files some may be gone.
pub record IsBeingRemoved (t : RemovalTask) (host : ℕ) (d : Content) : Type 0 where
  pub task : IsOpen t d
  pub sector : HasHeld t host d

-- The image has no folder, under either name, and no sector names it; the task is open yet, or done.
pub record IsRemoved (t : RemovalTask) (d : Content) : Type 0 where
  pub gone : IsGone (domain_of t) (image_of t) d
  pub sector : IsUnnamed (domain_of t) (image_of t) d
  pub task : IsOpen t d ⊎ IsDone t d

-- the whole deletion: so, and the task is done
pub record IsDeleted (t : RemovalTask) (d : Content) : Type 0 where
  pub gone : IsGone (domain_of t) (image_of t) d
  pub sector : IsUnnamed (domain_of t) (image_of t) d
  pub task : IsDone t d

-- what stands behind a step, by its stage; while the sectors are read, nothing changes
abbrev pub StandsIn : Stage → RemovalTask → ℕ → Content → Type 0
StandsIn (Scanning s) t host d = Unit {0}
StandsIn (Taking slot found) t host d = IsUntaken t d ⊎ IsTaken t host d
StandsIn (Opening lease w) t host d = IsTaken t host d ⊎ IsBeingRemoved t host d
StandsIn (Removing lease r) t host d = IsBeingRemoved t host d
StandsIn (Clearing lease) t host d = IsBeingRemoved t host d ⊎ IsRemoved t d
StandsIn (Ending w) t host d = IsRemoved t d

-- so now, and whatever crashes leave
pub record StandsOnEach (s : Stage) (t : RemovalTask) (host : ℕ) (d : Content) : Type 0 where
  pub now : StandsIn s t host d
  pub outcomes : (o : Content) → IsOutcome d o → StandsIn s t host o
