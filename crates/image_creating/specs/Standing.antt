-- What stands of a created image, now and whatever crashes leave: nothing; or an open task makes it; or it is there.
use Rattle.std.specs.Prelude.{◌≡◌, ◌⊎◌, ℕ, false, None}
use Rattle.shared_disk.specs.Content.{Content}
use Rattle.shared_disk.specs.Crash.{IsOutcome}
use Rattle.image_making.specs.NewImage.{IsImage, IsNoneOrWhole, folder_of, text_place}
use Rattle.image_making.specs.declared.making.NewImage.{NewImage}
use Rattle.image_creating.specs.ImageTask.{HasNone, HasSector, IsDone, IsOpen, domain_of, free, held, image_of}
use Rattle.image_creating.specs.Sectors.{IsUnnamed}
use Rattle.image_creating.specs.declared.image_task.ImageTask.{ImageTask}

-- The image isn't there: it has no folder and no text, and no sector names it. Its task has no text, or is open.
pub record IsAbsent (t : ImageTask) (x : NewImage) (d : Content) : Type 0 where
  pub folder : d.dir (folder_of x) ≡ false
  pub text : d.file (text_place x) ≡ None
  pub sector : IsUnnamed (domain_of t) (image_of t) d
  pub task : HasNone t d ⊎ IsOpen t d

-- The task is open, a sector is held for it, and the image's volume doesn't count, or the image is there whole.
pub record IsBeingMade (t : ImageTask) (x : NewImage) (host : ℕ) (d : Content) : Type 0 where
  pub task : IsOpen t d
  pub sector : HasSector t (held t host) d
  pub files : IsNoneOrWhole x d

-- The task is done, and the image is there whole, with a sector that is held for the task yet, or by nobody.
pub record IsMade (t : ImageTask) (x : NewImage) (host : ℕ) (d : Content) : Type 0 where
  pub task : IsDone t d
  pub sector : HasSector t (held t host) d ⊎ HasSector t (free t host) d
  pub image : IsImage x d

abbrev pub IsStanding : ImageTask → NewImage → ℕ → Content → Type 0
IsStanding t x host d = IsAbsent t x d ⊎ (IsBeingMade t x host d ⊎ IsMade t x host d)

-- so now, and whatever crashes leave
pub record IsStandingOnEach (t : ImageTask) (x : NewImage) (host : ℕ) (d : Content) : Type 0 where
  pub now : IsStanding t x host d
  pub outcomes : (o : Content) → IsOutcome d o → IsStanding t x host o

-- the whole creation: the task is done, and nobody holds the image, which is there whole
pub record IsCreated (t : ImageTask) (x : NewImage) (host : ℕ) (d : Content) : Type 0 where
  pub task : IsDone t d
  pub sector : HasSector t (free t host) d
  pub image : IsImage x d
