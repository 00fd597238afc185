-- The task under which an image is removed: its texts, where they stand, the image's folders, and the sector that is held for it.
use Rattle.std.specs.Prelude.{◌≡◌, ℕ, Some, None}
use Rattle.sd_names.specs.declared.id.Id.{Id}
use Rattle.sd_names.specs.declared.place.Dir.{Dir}
use Rattle.sd_names.specs.declared.place.Dir.TheVariants as dir
use Rattle.sd_names.specs.declared.place.Place.{Place}
use Rattle.shared_disk.specs.Content.{Content}
use Rattle.task_files.specs.TaskFile.{HasTask, task_place, volatile_place}
use Rattle.lease_area.specs.Hold.{Stands}
use Rattle.lease_area.specs.Sector.{sector_bytes}
use Rattle.lease_area.specs.declared.sector.Kind.TheVariants.{Task as ForTask}
use Rattle.lease_area.specs.declared.sector.LeaseRecord.{LeaseRecord}
use Rattle.lease_area.specs.declared.sector.Sector.TheVariants.{Lease}
use Rattle.image_deleting.specs.declared.removal_task.RemovalTask.{RemovalTask}

-- the domain that has the files of tasks, the task, the image's domain, and the image
abbrev pub master_of : RemovalTask → Id
master_of t = t.master

abbrev pub id_of : RemovalTask → Id
id_of t = t.begun.id

abbrev pub domain_of : RemovalTask → Id
domain_of t = t.sd

abbrev pub image_of : RemovalTask → Id
image_of t = t.image

pub record IsTaskOf (master task sd image : Id) (t : RemovalTask) : Type 0 where
  pub master_is : master_of t ≡ master
  pub id_is : id_of t ≡ task
  pub domain_is : domain_of t ≡ sd
  pub image_is : image_of t ≡ image

-- ---- its text

abbrev pub place_of : RemovalTask → Place
place_of t = task_place (master_of t) (id_of t)

-- the file beside it, which becomes it
abbrev pub new_place_of : RemovalTask → Place
new_place_of t = volatile_place (master_of t) (id_of t)

abbrev pub HasNone : RemovalTask → Content → Type 0
HasNone t d = HasTask (place_of t) None d

abbrev pub IsOpen : RemovalTask → Content → Type 0
IsOpen t d = HasTask (place_of t) (Some t.begun) d

abbrev pub IsDone : RemovalTask → Content → Type 0
IsDone t d = HasTask (place_of t) (Some t.done) d

-- ---- the image's folder, under its own name and under the removed one

abbrev pub own_folder : RemovalTask → Dir
own_folder t = dir.Image (domain_of t) (image_of t)

abbrev pub removed_folder : RemovalTask → Dir
removed_folder t = dir.Removed (domain_of t) (image_of t)

-- ---- its sector

-- a lease of the image that this host has for a task
pub record IsTaskLease (t : RemovalTask) (host : ℕ) (r : LeaseRecord) : Type 0 where
  pub kind_is : r.kind ≡ ForTask
  pub owner_is : r.owner ≡ host
  pub image_is : r.image ≡ image_of t

-- some sector of the image's domain has such a lease, with nothing unsynced
abbrev pub HasHeld : RemovalTask → ℕ → Content → Type 0
HasHeld t host d = (k : ℕ) × (r : LeaseRecord) × IsTaskLease t host r × Stands d (domain_of t) k (sector_bytes (Lease r))
