-- What a clearing knows, stage by stage.
use Rattle.std.specs.Prelude.{◌≡◌, ℕ, ◌*◌, ◌<◌, ◌≤◌, Option, Some, None}
use Rattle.sd_names.specs.declared.id.Id.{Id}
use Rattle.sd_names.specs.declared.place.Dir.TheVariants as dir
use Rattle.shared_disk.specs.Content.{Content, File}
use Rattle.lease_area.specs.Hold.{leases_of}
use Rattle.lease_area.specs.Noted.{sectors_of_step}
use Rattle.lease_area.specs.Record.{IsImageSlot}
use Rattle.lease_area.specs.Scan.{scan_domain, scan_image, seen_by, steps_made}
use Rattle.lease_area.specs.Sector.{sector_bytes, sector_in}
use Rattle.lease_area.specs.declared.scan.Scan.{Scan}
use Rattle.lease_area.specs.declared.sector.Kind.TheVariants.{Task}
use Rattle.lease_area.specs.declared.sector.LeaseRecord.{LeaseRecord}
use Rattle.lease_area.specs.declared.sector.Sector.TheVariants.{Lease}
use Rattle.image_creating.specs.Sectors.{IsArea, Names}
use Rattle.image_removing.specs.Steps.{HaveIds, IsGone, Knows as KnowsRemoval}
use Rattle.image_removing.specs.declared.removing.ImageRemoving.{ImageRemoving}
use Rattle.image_clearing.specs.Clearing.{domain_of, image_of, stage_of}
use Rattle.image_clearing.specs.Standing.{IsUnderSector}
use Rattle.image_clearing.specs.declared.clearing.ImageClearing.{ImageClearing}
use Rattle.image_clearing.specs.declared.clearing.Stage.{Stage}
use Rattle.image_clearing.specs.declared.clearing.Stage.TheVariants.{Scanning, Removing, Emptying}

-- ---- the sectors

-- each sector that names the image is held for a task
abbrev pub AreTasked : Id → File → Type 0
AreTasked image f = (k : ℕ) (r : LeaseRecord) → IsImageSlot k → sector_in (f.stable k) ≡ Some (Lease r) → r.image ≡ image → r.kind ≡ Task

-- this sector of images is the image's, held for a task, with this lease
pub record IsTaskSector (image : Id) (k : ℕ) (r : LeaseRecord) (f : File) : Type 0 where
  pub slot : IsImageSlot k
  pub bytes : f.stable k ≡ sector_bytes (Lease r)
  pub reads : sector_in (sector_bytes (Lease r)) ≡ Some (Lease r)
  pub image_is : r.image ≡ image
  pub held : r.kind ≡ Task

-- what was found in the sectors below the bound still stands: this one, or that none names the image
abbrev pub IsFound : Id → ℕ → Option (ℕ × LeaseRecord) → File → Type 0
IsFound image bound None f = (k : ℕ) → 0 < k → k < bound → Names image (f.stable k) → ⊥
IsFound image bound (Some a) f = IsTaskSector image a.0 a.1 f

-- the leases file of the domain is whole and settled, and whoever holds the image holds it for a task
pub record HasTaskArea (image : Id) (f : File) : Type 0 where
  pub area : IsArea f
  pub tasked : AreTasked image f

-- the identifiers of the names in the image's two folders have sixteen bytes, as all of a program have
abbrev pub HaveImageIds : Id → Id → Content → Type 0
HaveImageIds sd image d = HaveIds (dir.Image sd image) (dir.Removed sd image) d

-- ---- each stage's

-- before the first step
pub record KnowsImage (sd image : Id) (d : Content) : Type 0 where
  pub ids : HaveImageIds sd image d
  pub file : File
  pub there : d.file (leases_of sd) ≡ Some file
  pub sectors : HasTaskArea image file

pub record IsScanning (sd image : Id) (s : Scan) (d : Content) : Type 0 where
  pub domain : scan_domain s ≡ sd
  pub image_is : scan_image s ≡ image
  pub ids : HaveImageIds sd image d
  pub file : File
  pub there : d.file (leases_of sd) ≡ Some file
  pub sectors : HasTaskArea image file
  pub few : sectors_of_step * steps_made s ≤ 1024
  pub found : IsFound image (sectors_of_step * steps_made s) (seen_by s).found file

-- the sector is the image's still, with the lease that was read there
pub record IsHeld (sd image : Id) (slot : ℕ) (r : LeaseRecord) (d : Content) : Type 0 where
  pub stands : IsUnderSector sd slot r d
  pub slot_is : IsImageSlot slot
  pub reads : sector_in (sector_bytes (Lease r)) ≡ Some (Lease r)
  pub image_is : r.image ≡ image
  pub held : r.kind ≡ Task

pub record IsRemoving (sd image : Id) (slot : ℕ) (r : LeaseRecord) (m : ImageRemoving) (d : Content) : Type 0 where
  pub domain : m.sd ≡ sd
  pub image_is : m.image ≡ image
  pub sector : IsHeld sd image slot r d
  pub removal : KnowsRemoval m d

pub record IsEmptying (sd image : Id) (slot : ℕ) (r : LeaseRecord) (d : Content) : Type 0 where
  pub sector : IsHeld sd image slot r d
  pub gone : IsGone sd image d

abbrev pub IsReady : Stage → Id → Id → Content → Type 0
IsReady (Scanning s) sd image d = IsScanning sd image s d
IsReady (Removing slot r m) sd image d = IsRemoving sd image slot r m d
IsReady (Emptying slot r) sd image d = IsEmptying sd image slot r d

abbrev pub Knows : ImageClearing → Content → Type 0
Knows c d = IsReady (stage_of c) (domain_of c) (image_of c) d
