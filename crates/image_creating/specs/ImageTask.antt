-- The task under which an image is made: its texts, where they stand, and the sectors that it gives the image.
use Rattle.std.specs.Prelude.{◌≡◌, ℕ, Some, None}
use Rattle.sd_names.specs.declared.id.Id.{Id}
use Rattle.sd_names.specs.declared.place.Place.{Place}
use Rattle.shared_disk.specs.Content.{Content}
use Rattle.task_files.specs.TaskFile.{HasTask, task_place, volatile_place}
use Rattle.lease_area.specs.Hold.{Stands}
use Rattle.lease_area.specs.Move.{freed, made_by}
use Rattle.lease_area.specs.Sector.{sector_bytes}
use Rattle.lease_area.specs.declared.sector.Sector.{Sector}
use Rattle.lease_area.specs.declared.sector.Sector.TheVariants.{Lease}
use Rattle.image_creating.specs.declared.image_task.ImageTask.{ImageTask}

-- the domain that has the files of tasks, the task, the image's domain, and the image
abbrev pub master_of : ImageTask → Id
master_of t = t.master

abbrev pub id_of : ImageTask → Id
id_of t = t.begun.id

abbrev pub domain_of : ImageTask → Id
domain_of t = t.sd

abbrev pub image_of : ImageTask → Id
image_of t = t.image

pub record IsTaskOf (master task sd image : Id) (t : ImageTask) : Type 0 where
  pub master_is : master_of t ≡ master
  pub id_is : id_of t ≡ task
  pub domain_is : domain_of t ≡ sd
  pub image_is : image_of t ≡ image

-- ---- its text

abbrev pub place_of : ImageTask → Place
place_of t = task_place (master_of t) (id_of t)

-- the file beside it, which becomes it
abbrev pub new_place_of : ImageTask → Place
new_place_of t = volatile_place (master_of t) (id_of t)

abbrev pub HasNone : ImageTask → Content → Type 0
HasNone t d = HasTask (place_of t) None d

abbrev pub IsOpen : ImageTask → Content → Type 0
IsOpen t d = HasTask (place_of t) (Some t.begun) d

abbrev pub IsDone : ImageTask → Content → Type 0
IsDone t d = HasTask (place_of t) (Some t.done) d

-- ---- its sector: held for the task by this host, at version 1, and once the task is done held by nobody

abbrev pub held : ImageTask → ℕ → Sector
held t host = Lease (made_by host (image_of t))

abbrev pub free : ImageTask → ℕ → Sector
free t host = Lease (freed (made_by host (image_of t)))

-- some sector of the image's domain has this, with nothing unsynced
abbrev pub HasSector : ImageTask → Sector → Content → Type 0
HasSector t s d = (k : ℕ) × Stands d (domain_of t) k (sector_bytes s)
