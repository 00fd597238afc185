-- The lease sectors of a domain: which name an image, which are empty, and what others may make of them.
use Rattle.std.specs.Prelude.{◌≡◌, ◌⊎◌, ℕ, ◌<◌, List, Some}
use Rattle.sd_names.specs.declared.id.Id.{Id}
use Rattle.shared_disk.specs.Content.{Content, File}
use Rattle.shared_disk.specs.Crash.{IsSettled}
use Rattle.lease_area.specs.Hold.{leases_of}
use Rattle.lease_area.specs.Record.{IsImageSlot}
use Rattle.lease_area.specs.Sector.{sector_bytes, sector_in}
use Rattle.lease_area.specs.declared.sector.Kind.TheVariants.{Task}
use Rattle.lease_area.specs.declared.sector.LeaseRecord.{LeaseRecord}
use Rattle.lease_area.specs.declared.sector.Sector.TheVariants.{Empty, Lease}

-- the leases file of a domain, whole, with nothing unsynced
pub record IsArea (f : File) : Type 0 where
  pub size : f.size ≡ 1024
  pub settled : IsSettled f

abbrev pub HasArea : Id → Content → Type 0
HasArea sd d = (f : File) × (d.file (leases_of sd) ≡ Some f) × IsArea f

-- a sector with these bytes names the image, or is empty
abbrev pub Names : Id → List ℕ → Type 0
Names image bytes = (r : LeaseRecord) × (sector_in bytes ≡ Some (Lease r)) × (r.image ≡ image)

abbrev pub IsEmpty : List ℕ → Type 0
IsEmpty bytes = sector_in bytes ≡ Some Empty

-- ---- of the sectors of images, 1 to 1,023

abbrev pub IsNamedIn : Id → File → Type 0
IsNamedIn image f = (k : ℕ) × IsImageSlot k × Names image (f.stable k)

abbrev pub IsUnnamedIn : Id → File → Type 0
IsUnnamedIn image f = (k : ℕ) → IsImageSlot k → Names image (f.stable k) → ⊥

abbrev pub IsFullFile : File → Type 0
IsFullFile f = (k : ℕ) → IsImageSlot k → IsEmpty (f.stable k) → ⊥

pub record IsLeastEmptyIn (slot : ℕ) (f : File) : Type 0 where
  pub empty : IsEmpty (f.stable slot)
  pub least : (k : ℕ) → IsImageSlot k → k < slot → IsEmpty (f.stable k) → ⊥

-- some sector names the image; none does; none is empty
abbrev pub IsNamed : Id → Id → Content → Type 0
IsNamed sd image d = (f : File) × (d.file (leases_of sd) ≡ Some f) × IsNamedIn image f

abbrev pub IsUnnamed : Id → Id → Content → Type 0
IsUnnamed sd image d = (f : File) × (d.file (leases_of sd) ≡ Some f) × IsArea f × IsUnnamedIn image f

abbrev pub IsFull : Id → Content → Type 0
IsFull sd d = (f : File) × (d.file (leases_of sd) ≡ Some f) × IsFullFile f

-- this one is the least that is empty
abbrev pub IsLeastEmpty : Id → ℕ → Content → Type 0
IsLeastEmpty sd slot d = (f : File) × (d.file (leases_of sd) ≡ Some f) × IsLeastEmptyIn slot f

-- ---- what others make of sectors

-- the sector is as it was, or it names the same image as before
abbrev pub IsSectorKept : List ℕ → List ℕ → Type 0
IsSectorKept a b =
    (b ≡ a) ⊎ ((r : LeaseRecord) × (s : LeaseRecord) × (sector_in a ≡ Some (Lease r)) × (sector_in b ≡ Some (Lease s)) × (s.image ≡ r.image))

-- Each sector is kept so, and one that is held for a task is as it was.
pub record KeepsSectors (f g : File) : Type 0 where
  pub size : g.size ≡ f.size
  pub settled : IsSettled f → IsSettled g
  pub each : (k : ℕ) → IsSectorKept (f.stable k) (g.stable k)
  pub held : (k : ℕ) (r : LeaseRecord) → f.stable k ≡ sector_bytes (Lease r) → r.kind ≡ Task → g.stable k ≡ f.stable k

-- so in a domain's leases file, where it is there
abbrev pub KeepsLeases : Id → Content → Content → Type 0
KeepsLeases sd d e = (f : File) → d.file (leases_of sd) ≡ Some f → (g : File) × (e.file (leases_of sd) ≡ Some g) × KeepsSectors f g
