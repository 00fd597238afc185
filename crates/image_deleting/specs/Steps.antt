-- What a step of a deletion leaves, where it knows what its stage says.
use Rattle.std.specs.Prelude.{◌≡◌, ◌≢◌, ◌⊎◌, ℕ, true, false, Some}
use Rattle.sd_names.specs.UpSet.{Hosts}
use Rattle.sd_names.specs.declared.place.Dir.{Dir}
use Rattle.sd_names.specs.declared.place.Place.{Place}
use Rattle.sd_names.specs.declared.refusal.Refusal.{Refusal}
use Rattle.sd_names.specs.declared.refusal.Refusal.TheVariants.{DiskFault, ImageHeld, NoImage}
use Rattle.sd_names.specs.declared.turn.Turn.TheVariants.{More, Done, Ended}
use Rattle.shared_disk.specs.Calls.{IsSame}
use Rattle.shared_disk.specs.Changes.{exchanged}
use Rattle.shared_disk.specs.Content.{Content, File}
use Rattle.lease_area.specs.Hold.{leases_of}
use Rattle.lease_area.specs.Move.{may_take}
use Rattle.lease_area.specs.Sector.{sector_bytes}
use Rattle.lease_area.specs.declared.sector.LeaseRecord.{LeaseRecord}
use Rattle.lease_area.specs.declared.sector.Sector.TheVariants.{Empty, Lease}
use Rattle.image_creating.specs.Sectors.{IsUnnamed, Names}
use Rattle.image_deleting.specs.Deleting.{DeleteTurn, stage_of, under_of}
use Rattle.image_deleting.specs.Knowing.{Knows}
use Rattle.image_deleting.specs.RemovalTask.{IsTaskLease, domain_of, image_of, new_place_of, own_folder, place_of, removed_folder}
use Rattle.image_deleting.specs.Standing.{IsDeleted, StandsOnEach}
use Rattle.image_deleting.specs.declared.deleting.DeleteImage.{DeleteImage}
use Rattle.image_deleting.specs.declared.deleting.Stage.{Stage}
use Rattle.image_deleting.specs.declared.deleting.Stage.TheVariants.{Scanning, Taking, Removing}
use Rattle.image_deleting.specs.declared.removal_task.RemovalTask.{RemovalTask}

-- ---- what is left alone

-- the sector that named the image is held for the task
abbrev pub IsSectorTaken : RemovalTask → ℕ → Content → Content → Type 0
IsSectorTaken t host d e =
    (f : File) × (k : ℕ) × (r : LeaseRecord) × (d.file (leases_of (domain_of t)) ≡ Some f) × Names (image_of t) (f.stable k) × IsTaskLease t host r
    × (e.file (leases_of (domain_of t)) ≡ Some (exchanged k (sector_bytes (Lease r)) f))

-- the sector that was held for the task is empty
abbrev pub IsSectorEmptied : RemovalTask → ℕ → Content → Content → Type 0
IsSectorEmptied t host d e =
    (f : File) × (k : ℕ) × (r : LeaseRecord) × (d.file (leases_of (domain_of t)) ≡ Some f) × (f.stable k ≡ sector_bytes (Lease r)) × IsTaskLease t host r
    × (e.file (leases_of (domain_of t)) ≡ Some (exchanged k (sector_bytes Empty) f))

abbrev pub IsSectorLeft : RemovalTask → ℕ → Content → Content → Type 0
IsSectorLeft t host d e = (e.file (leases_of (domain_of t)) ≡ d.file (leases_of (domain_of t))) ⊎ (IsSectorTaken t host d e ⊎ IsSectorEmptied t host d e)

-- Nothing has changed but the task's file and the one beside it, the image's sector, its two folders and the files in them.
pub record IsApart (t : RemovalTask) (host : ℕ) (d e : Content) : Type 0 where
  pub dirs : (q : Dir) → q ≢ own_folder t → q ≢ removed_folder t → e.dir q ≡ d.dir q
  pub files : (q : Place) → q ≢ place_of t → q ≢ new_place_of t → q ≢ leases_of (domain_of t) → q.dir ≢ own_folder t → q.dir ≢ removed_folder t → e.file q ≡ d.file q
  pub sector : IsSectorLeft t host d e

-- the image's folders and their files are as they were
pub record IsUntouched (t : RemovalTask) (d e : Content) : Type 0 where
  pub own : e.dir (own_folder t) ≡ d.dir (own_folder t)
  pub removed : e.dir (removed_folder t) ≡ d.dir (removed_folder t)
  pub files : (q : Place) → (q.dir ≡ own_folder t) ⊎ (q.dir ≡ removed_folder t) → e.file q ≡ d.file q

-- While the sectors are read nothing changes; and only while the task is open are the image's files touched.
abbrev pub Stays : Stage → RemovalTask → Content → Content → Type 0
Stays (Scanning s) t d e = IsSame d e
Stays (Removing lease r) t d e = Unit {0}
Stays _ t d e = IsUntouched t d e

-- ---- what a turn tells

-- The image's sector has a lease that the host may not take, whose owner is told; or the host could take what stands there, and
-- it isn't what was read: the host's own number is told.
pub record IsInUse (t : RemovalTask) (found : LeaseRecord) (host : ℕ) (up : Hosts) (owner : ℕ) (d : Content) : Type 0 where
  pub file : File
  pub slot : ℕ
  pub lease : LeaseRecord
  pub there : d.file (leases_of (domain_of t)) ≡ Some file
  pub stands : file.stable slot ≡ sector_bytes (Lease lease)
  pub image_is : lease.image ≡ image_of t
  pub told : ((may_take up host lease.kind lease.owner ≡ false) × (owner ≡ lease.owner))
      ⊎ ((may_take up host lease.kind lease.owner ≡ true) × (file.stable slot ≢ sector_bytes (Lease found)) × (owner ≡ host))

-- 52 comes only where the sector is taken
abbrev pub MayBeInUse : Stage → RemovalTask → ℕ → Hosts → ℕ → Content → Type 0
MayBeInUse (Taking slot found) t host up owner d = IsInUse t found host up owner d
MayBeInUse _ t host up owner d = ⊥

-- what a refusal tells; none but these comes, and 120 with the disk's count of faults
abbrev pub IsRefused : Refusal → Stage → RemovalTask → ℕ → Hosts → ℕ → Content → Type 0
IsRefused NoImage s t host up faults d = IsUnnamed (domain_of t) (image_of t) d
IsRefused (ImageHeld owner) s t host up faults d = MayBeInUse s t host up owner d
IsRefused refusal s t host up faults d = refusal ≡ DiskFault faults

abbrev pub After : DeleteTurn → Stage → RemovalTask → ℕ → Hosts → ℕ → Content → Content → Type 0
After (More next) s t host up faults d e = Knows next host e
After (Done _) s t host up faults d e = IsDeleted t e
After (Ended _ refusal) s t host up faults d e = IsRefused refusal s t host up faults d

pub record StepsIn (s : Stage) (t : RemovalTask) (host : ℕ) (up : Hosts) (faults : ℕ) (turn : DeleteTurn) (d e : Content) : Type 0 where
  pub apart : IsApart t host d e
  pub stays : Stays s t d e
  pub leaves : StandsOnEach s t host e
  pub after : After turn s t host up faults d e

abbrev pub DeleteSteps : DeleteImage → ℕ → Hosts → ℕ → DeleteTurn → Content → Content → Type 0
DeleteSteps c host up faults turn d e = StepsIn (stage_of c) (under_of c) host up faults turn d e
