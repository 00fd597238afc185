-- What a creation knows, stage by stage.
use Rattle.std.specs.Prelude.{◌≡◌, ℕ, ◌<◌, true, false, List, Some}
use Rattle.sd_names.specs.declared.id.Id.{Id}
use Rattle.sd_names.specs.declared.place.Dir.TheVariants.{Images, Tasks}
use Rattle.shared_disk.specs.Content.{Content, File}
use Rattle.lease_area.specs.Hold.{Stands, domain_of as lease_domain, leases_of, record_of, slot_of}
use Rattle.lease_area.specs.Move.{made_by}
use Rattle.lease_area.specs.Scan.{scan_domain, scan_image, seen_by, steps_made}
use Rattle.lease_area.specs.Sector.{sector_bytes}
use Rattle.lease_area.specs.WholeScan.{IsScan}
use Rattle.lease_area.specs.declared.lease.Lease.{Lease as Held}
use Rattle.lease_area.specs.declared.scan.Scan.{Scan}
use Rattle.lease_area.specs.declared.scanned.Scanned.{Scanned}
use Rattle.task_store.specs.declared.task.Task.{Task}
use Rattle.task_files.specs.Write.{Knows as KnowsWrite, file_of, volatile_of}
use Rattle.task_files.specs.declared.write.TaskWrite.{TaskWrite}
use Rattle.image_making.specs.Making.{image_of as made_in}
use Rattle.image_making.specs.NewImage.{IsImage, folder_of}
use Rattle.image_making.specs.Steps.{Knows as KnowsMaking}
use Rattle.image_making.specs.declared.making.ImageMaking.{ImageMaking}
use Rattle.image_making.specs.declared.making.NewImage.{NewImage}
use Rattle.image_creating.specs.Creating.{IsMakingBegun, stage_of, under_of}
use Rattle.image_creating.specs.ImageTask.{HasNone, IsDone, IsOpen, domain_of, held, image_of, master_of, new_place_of, place_of}
use Rattle.image_creating.specs.Sectors.{HasArea, IsArea, IsLeastEmpty, IsUnnamed, KeepsSectors}
use Rattle.image_creating.specs.declared.creating.CreateImage.{CreateImage}
use Rattle.image_creating.specs.declared.creating.Stage.{Stage}
use Rattle.image_creating.specs.declared.creating.Stage.TheVariants.{Asking, Scanning, Opening, Taking, Making, Ending, Releasing}
use Rattle.image_creating.specs.declared.image_task.ImageTask.{ImageTask}

-- the task is for this image
pub record IsFor (t : ImageTask) (x : NewImage) : Type 0 where
  pub domain : x.says.domain ≡ domain_of t
  pub image : x.says.image ≡ image_of t

-- the folder of tasks is there
abbrev pub HasTasks : ImageTask → Content → Type 0
HasTasks t d = d.dir (Tasks (master_of t)) ≡ true

-- nothing of the image's files is made, and the domain's folders are there; the task has no text yet
pub record IsFresh (t : ImageTask) (x : NewImage) (m : ImageMaking) (d : Content) : Type 0 where
  pub same : IsFor t x
  pub making : IsMakingBegun x m
  pub images : d.dir (Images x.says.domain) ≡ true
  pub tasks : HasTasks t d

-- The sectors that so many steps of a scan have read, each in its step's moment, and what they have seen: since then each
-- sector was kept.
pub record IsReadSince (steps host : ℕ) (sd image : Id) (last : Scanned) (f : File) : Type 0 where
  pub folders : ℕ → Content
  pub before : ℕ → List ℕ
  pub rooms : ℕ → List ℕ
  pub seen : ℕ → Scanned
  pub scan : IsScan steps host sd image folders before rooms seen
  pub now : seen steps ≡ last
  pub kept : (i : ℕ) → i < steps → (g : File) × ((folders i).file (leases_of sd) ≡ Some g) × IsArea g × KeepsSectors g f

pub record IsScanning (t : ImageTask) (x : NewImage) (m : ImageMaking) (s : Scan) (host : ℕ) (d : Content) : Type 0 where
  pub fresh : IsFresh t x m d
  pub none : d.dir (folder_of x) ≡ false
  pub task : HasNone t d
  pub domain : scan_domain s ≡ domain_of t
  pub image : scan_image s ≡ image_of t
  pub file : File
  pub there : d.file (leases_of (domain_of t)) ≡ Some file
  pub area : IsArea file
  pub read : IsReadSince (steps_made s) host (domain_of t) (image_of t) (seen_by s) file

-- the image has no folder and no sector, and this sector is the least empty one
pub record IsPlaced (t : ImageTask) (x : NewImage) (m : ImageMaking) (slot : ℕ) (d : Content) : Type 0 where
  pub fresh : IsFresh t x m d
  pub none : d.dir (folder_of x) ≡ false
  pub unnamed : IsUnnamed (domain_of t) (image_of t) d
  pub empty : IsLeastEmpty (domain_of t) slot d

-- a text of the task is written into its file
pub record IsWriting (t : ImageTask) (text : Task) (w : TaskWrite) (host : ℕ) (d : Content) : Type 0 where
  pub file : file_of w ≡ place_of t
  pub volatile : volatile_of w ≡ new_place_of t
  pub write : KnowsWrite w host text d

-- the lease is the image's, taken for the task, and its sector stands
pub record IsHeld (t : ImageTask) (lease : Held) (host : ℕ) (d : Content) : Type 0 where
  pub domain : lease_domain lease ≡ domain_of t
  pub lease_is : record_of lease ≡ made_by host (image_of t)
  pub stands : Stands d (domain_of t) (slot_of lease) (sector_bytes (held t host))

pub record IsNew (t : ImageTask) (x : NewImage) (m : ImageMaking) (d : Content) : Type 0 where
  pub fresh : IsFresh t x m d
  pub task : HasNone t d
  pub area : HasArea (domain_of t) d

pub record IsOpening (t : ImageTask) (x : NewImage) (m : ImageMaking) (slot : ℕ) (w : TaskWrite) (host : ℕ) (d : Content) : Type 0 where
  pub placed : IsPlaced t x m slot d
  pub task : HasNone t d
  pub writing : IsWriting t t.begun w host d

pub record IsTaking (t : ImageTask) (x : NewImage) (m : ImageMaking) (slot : ℕ) (d : Content) : Type 0 where
  pub placed : IsPlaced t x m slot d
  pub task : IsOpen t d

pub record IsMakingFiles (t : ImageTask) (x : NewImage) (m : ImageMaking) (lease : Held) (host : ℕ) (d : Content) : Type 0 where
  pub same : IsFor t x
  pub image : made_in m ≡ x
  pub tasks : HasTasks t d
  pub task : IsOpen t d
  pub held : IsHeld t lease host d
  pub making : KnowsMaking m host d

pub record IsEnding (t : ImageTask) (x : NewImage) (lease : Held) (w : TaskWrite) (host : ℕ) (d : Content) : Type 0 where
  pub same : IsFor t x
  pub task : IsOpen t d
  pub held : IsHeld t lease host d
  pub writing : IsWriting t t.done w host d
  pub image : IsImage x d

pub record IsReleasing (t : ImageTask) (x : NewImage) (lease : Held) (host : ℕ) (d : Content) : Type 0 where
  pub same : IsFor t x
  pub task : IsDone t d
  pub held : IsHeld t lease host d
  pub image : IsImage x d

-- what is known of the folder, by the stage
abbrev pub IsReady : Stage → ImageTask → NewImage → ℕ → Content → Type 0
IsReady (Asking m) t x host d = IsNew t x m d
IsReady (Scanning m s) t x host d = IsScanning t x m s host d
IsReady (Opening m slot w) t x host d = IsOpening t x m slot w host d
IsReady (Taking m slot) t x host d = IsTaking t x m slot d
IsReady (Making m lease) t x host d = IsMakingFiles t x m lease host d
IsReady (Ending lease w) t x host d = IsEnding t x lease w host d
IsReady (Releasing lease) t x host d = IsReleasing t x lease host d

-- The image that is made is an argument, since the creation lets it go once its files are there.
abbrev pub Knows : CreateImage → NewImage → ℕ → Content → Type 0
Knows c x host d = IsReady (stage_of c) (under_of c) x host d
