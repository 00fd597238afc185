-- What a deletion knows, stage by stage.
use Rattle.std.specs.Prelude.{◌≡◌, ℕ, true, Some}
use Rattle.sd_names.specs.declared.place.Dir.TheVariants.{Tasks}
use Rattle.shared_disk.specs.Content.{Content, File}
use Rattle.lease_area.specs.Hold.{Stands, domain_of as lease_domain, leases_of, record_of, slot_of}
use Rattle.lease_area.specs.Scan.{scan_domain, scan_image, seen_by, steps_made}
use Rattle.lease_area.specs.Sector.{sector_bytes}
use Rattle.lease_area.specs.declared.lease.Lease.{Lease as Held}
use Rattle.lease_area.specs.declared.scan.Scan.{Scan}
use Rattle.lease_area.specs.declared.sector.LeaseRecord.{LeaseRecord}
use Rattle.lease_area.specs.declared.sector.Sector.TheVariants.{Lease}
use Rattle.task_store.specs.declared.task.Task.{Task}
use Rattle.task_files.specs.Write.{Knows as KnowsWrite, file_of, volatile_of}
use Rattle.task_files.specs.declared.write.TaskWrite.{TaskWrite}
use Rattle.image_creating.specs.Knowing.{IsReadSince}
use Rattle.image_creating.specs.Sectors.{IsArea, IsUnnamed, Names}
use Rattle.image_removing.specs.Removing.{own_folder as own_of, removed_folder as removed_of}
use Rattle.image_removing.specs.Steps.{HaveIds, IsGone, Knows as KnowsRemoving}
use Rattle.image_removing.specs.declared.removing.ImageRemoving.{ImageRemoving}
use Rattle.image_deleting.specs.Deleting.{stage_of, under_of}
use Rattle.image_deleting.specs.RemovalTask.{HasNone, IsOpen, IsTaskLease, domain_of, image_of, master_of, new_place_of, own_folder, place_of, removed_folder}
use Rattle.image_deleting.specs.Sectors.{HasOnly, IsOnceIn, IsOnlyAt}
use Rattle.image_deleting.specs.declared.deleting.DeleteImage.{DeleteImage}
use Rattle.image_deleting.specs.declared.deleting.Stage.{Stage}
use Rattle.image_deleting.specs.declared.deleting.Stage.TheVariants.{Scanning, Taking, Opening, Removing, Clearing, Ending}
use Rattle.image_deleting.specs.declared.removal_task.RemovalTask.{RemovalTask}

-- the folder of tasks is there
abbrev pub HasTasks : RemovalTask → Content → Type 0
HasTasks t d = d.dir (Tasks (master_of t)) ≡ true

-- the identifiers of the names in the image's folders have sixteen bytes, as all of a program have
abbrev pub HasIds : RemovalTask → Content → Type 0
HasIds t d = HaveIds (own_folder t) (removed_folder t) d

-- the task has no text, and what the removal of the files wants is there
pub record IsFresh (t : RemovalTask) (d : Content) : Type 0 where
  pub tasks : HasTasks t d
  pub ids : HasIds t d
  pub task : HasNone t d

pub record IsScanning (t : RemovalTask) (s : Scan) (host : ℕ) (d : Content) : Type 0 where
  pub fresh : IsFresh t d
  pub domain : scan_domain s ≡ domain_of t
  pub image : scan_image s ≡ image_of t
  pub file : File
  pub there : d.file (leases_of (domain_of t)) ≡ Some file
  pub area : IsArea file
  pub once : IsOnceIn (image_of t) file
  pub read : IsReadSince (steps_made s) host (domain_of t) (image_of t) (seen_by s) file

-- this sector names the image, and no other does; when it was read it had this lease of the image
pub record IsTaking (t : RemovalTask) (slot : ℕ) (found : LeaseRecord) (d : Content) : Type 0 where
  pub fresh : IsFresh t d
  pub file : File
  pub there : d.file (leases_of (domain_of t)) ≡ Some file
  pub area : IsArea file
  pub only : IsOnlyAt (image_of t) slot file
  pub names : Names (image_of t) (file.stable slot)
  pub found_is : found.image ≡ image_of t

-- the lease is the image's, taken for the task, its sector stands, and no other one names the image
pub record IsHeld (t : RemovalTask) (lease : Held) (host : ℕ) (d : Content) : Type 0 where
  pub domain : lease_domain lease ≡ domain_of t
  pub lease_is : IsTaskLease t host (record_of lease)
  pub stands : Stands d (domain_of t) (slot_of lease) (sector_bytes (Lease (record_of lease)))
  pub only : HasOnly (domain_of t) (image_of t) (slot_of lease) d

-- a text of the task is written into its file
pub record IsWriting (t : RemovalTask) (text : Task) (w : TaskWrite) (host : ℕ) (d : Content) : Type 0 where
  pub file : file_of w ≡ place_of t
  pub volatile : volatile_of w ≡ new_place_of t
  pub write : KnowsWrite w host text d

pub record IsOpening (t : RemovalTask) (lease : Held) (w : TaskWrite) (host : ℕ) (d : Content) : Type 0 where
  pub fresh : IsFresh t d
  pub held : IsHeld t lease host d
  pub writing : IsWriting t t.begun w host d

-- the removal is of the task's image
pub record IsOf (t : RemovalTask) (r : ImageRemoving) : Type 0 where
  pub own : own_of r ≡ own_folder t
  pub removed : removed_of r ≡ removed_folder t

pub record IsRemovingFiles (t : RemovalTask) (lease : Held) (r : ImageRemoving) (host : ℕ) (d : Content) : Type 0 where
  pub tasks : HasTasks t d
  pub task : IsOpen t d
  pub held : IsHeld t lease host d
  pub same : IsOf t r
  pub removing : KnowsRemoving r d

pub record IsClearing (t : RemovalTask) (lease : Held) (host : ℕ) (d : Content) : Type 0 where
  pub tasks : HasTasks t d
  pub task : IsOpen t d
  pub held : IsHeld t lease host d
  pub gone : IsGone (domain_of t) (image_of t) d

pub record IsEnding (t : RemovalTask) (w : TaskWrite) (host : ℕ) (d : Content) : Type 0 where
  pub task : IsOpen t d
  pub gone : IsGone (domain_of t) (image_of t) d
  pub unnamed : IsUnnamed (domain_of t) (image_of t) d
  pub writing : IsWriting t t.done w host d

-- what is known of the folder, by the stage
abbrev pub IsReady : Stage → RemovalTask → ℕ → Content → Type 0
IsReady (Scanning s) t host d = IsScanning t s host d
IsReady (Taking slot found) t host d = IsTaking t slot found d
IsReady (Opening lease w) t host d = IsOpening t lease w host d
IsReady (Removing lease r) t host d = IsRemovingFiles t lease r host d
IsReady (Clearing lease) t host d = IsClearing t lease host d
IsReady (Ending w) t host d = IsEnding t w host d

abbrev pub Knows : DeleteImage → ℕ → Content → Type 0
Knows c host d = IsReady (stage_of c) (under_of c) host d
