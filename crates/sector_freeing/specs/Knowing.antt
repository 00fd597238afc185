-- What a freeing knows, stage by stage.
use Rattle.std.specs.Prelude.{◌≡◌, ◌≢◌, ◌⊎◌, ℕ, ◌<◌, Some}
use Rattle.sd_names.specs.Place.{NameHasIds}
use Rattle.sd_names.specs.declared.id.Id.{Id}
use Rattle.sd_names.specs.declared.place.Dir.{Dir}
use Rattle.sd_names.specs.declared.place.Dir.TheVariants as dir
use Rattle.sd_names.specs.declared.place.Name.{Name}
use Rattle.shared_disk.specs.Content.{Content, File}
use Rattle.shared_disk.specs.Crash.{IsSettledFor}
use Rattle.shared_disk.specs.NameCalls.{IsNameAbove, ShowsName, place_in}
use Rattle.lease_area.specs.Hold.{leases_of}
use Rattle.lease_area.specs.Record.{IsImageSlot}
use Rattle.lease_area.specs.Sector.{sector_bytes, sector_in}
use Rattle.lease_area.specs.declared.sector.Kind.TheVariants.{Task}
use Rattle.lease_area.specs.declared.sector.LeaseRecord.{LeaseRecord}
use Rattle.lease_area.specs.declared.sector.Sector.TheVariants.{Lease}
use Rattle.image_creating.specs.Sectors.{IsArea}
use Rattle.sector_freeing.specs.Freeing.{domain_of, stage_of}
use Rattle.sector_freeing.specs.declared.freeing.SectorFreeing.{SectorFreeing}
use Rattle.sector_freeing.specs.declared.freeing.Stage.{Stage}
use Rattle.sector_freeing.specs.declared.freeing.Stage.TheVariants.{Looking, Listing, Syncing, Freeing}

-- ---- the sectors

-- no sector of images below the bound is held for a task
abbrev pub NoneBelow : ℕ → File → Type 0
NoneBelow bound f = (k : ℕ) (r : LeaseRecord) → IsImageSlot k → k < bound → sector_in (f.stable k) ≡ Some (Lease r) → r.kind ≢ Task

-- the leases file of the domain is whole, with nothing unsynced, and no sector below the bound is held for a task
pub record HasNoneBelow (sd : Id) (bound : ℕ) (d : Content) : Type 0 where
  pub file : File
  pub there : d.file (leases_of sd) ≡ Some file
  pub area : IsArea file
  pub none : NoneBelow bound file

-- this sector is held for a task, with this lease, and none below it is
pub record HasTask (sd : Id) (slot : ℕ) (r : LeaseRecord) (d : Content) : Type 0 where
  pub below : HasNoneBelow sd slot d
  pub slot_is : IsImageSlot slot
  pub bytes : below.file.stable slot ≡ sector_bytes (Lease r)
  pub reads : sector_in (sector_bytes (Lease r)) ≡ Some (Lease r)
  pub held : r.kind ≡ Task

-- ---- the files

-- this host has nothing unsynced in a folder's files but in those of which this holds
abbrev pub AreSyncedBut : (Name → Type 0) → ℕ → Dir → Content → Type 0
AreSyncedBut Is host q d = (n : Name) (f : File) → d.file (place_in q n) ≡ Some f → Is n ⊎ IsSettledFor host f

-- it has none in the image's files
abbrev pub AreSynced : ℕ → Id → Id → Content → Type 0
AreSynced host sd image d = (n : Name) (f : File) → d.file (place_in (dir.Image sd image) n) ≡ Some f → IsSettledFor host f

-- the identifiers of the names in the folders of the domain's images have sixteen bytes, as all of a program have
abbrev pub HaveIds : Id → Content → Type 0
HaveIds sd d = (image : Id) (n : Name) → ShowsName d (dir.Image sd image) n → NameHasIds n

-- ---- each stage's

abbrev pub IsReady : Stage → ℕ → Id → Content → Type 0
IsReady (Looking from) host sd d = HasNoneBelow sd from d
IsReady (Listing slot r after) host sd d = HasTask sd slot r d × AreSyncedBut (IsNameAbove after) host (dir.Image sd r.image) d
IsReady (Syncing slot r n) host sd d = HasTask sd slot r d × AreSyncedBut (λ m. (m ≡ n) ⊎ IsNameAbove (Some n) m) host (dir.Image sd r.image) d
IsReady (Freeing slot r) host sd d = HasTask sd slot r d × AreSynced host sd r.image d

abbrev pub KnowsIn : Stage → ℕ → Id → Content → Type 0
KnowsIn s host sd d = HaveIds sd d × IsReady s host sd d

abbrev pub Knows : ℕ → SectorFreeing → Content → Type 0
Knows host s d = KnowsIn (stage_of s) host (domain_of s) d
