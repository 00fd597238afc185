-- What the steps of a scan find together: each sector as it was read in its step's moment.
use Rattle.std.specs.Prelude.{◌≡◌, ◌⊎◌, ℕ, ◌+◌, ◌/◌, ◌%◌, ◌<◌, ◌≤◌, nat_lt, if◌then◌else◌, List, [], length, Option, Some, None, option_map, unwrap_or}
use Rattle.sd_names.specs.declared.id.Id.{Id}
use Rattle.shared_disk.specs.Content.{Content, File, Sees, sector_of}
use Rattle.lease_area.specs.Hold.{leases_of}
use Rattle.lease_area.specs.Noted.{nothing_seen, sectors_of_step}
use Rattle.lease_area.specs.Scan.{Looks}
use Rattle.lease_area.specs.Sector.{sector_in}
use Rattle.lease_area.specs.declared.scanned.Scanned.{Scanned}
use Rattle.lease_area.specs.declared.sector.LeaseRecord.{LeaseRecord}
use Rattle.lease_area.specs.declared.sector.Sector.TheVariants.{Empty, Lease}

-- The first so many steps of a host's scan of a domain for an image: by the step's number, from 0, the folder in its
-- moment, the room before and after it, and what was seen before it.
pub record IsScan (steps host : ℕ) (sd image : Id) (folders : ℕ → Content) (before rooms : ℕ → List ℕ) (seen : ℕ → Scanned) : Type 0 where
  pub begun : seen 0 ≡ nothing_seen
  pub room : (i : ℕ) → i < steps → length (before i) ≡ 65536
  pub looks : (i : ℕ) → i < steps → Looks sd image i host (before i) (rooms i) (seen i) (seen (i + 1)) (folders i)

-- how many sectors the leases file has, 0 where there is none
abbrev pub size_in : Id → Content → ℕ
size_in sd d = unwrap_or (option_map (λ f. f.size) (d.file (leases_of sd))) 0

-- a sector as its step read it; no bytes where the file ended before it
abbrev pub sector_read : Id → (ℕ → Content) → (ℕ → List ℕ) → ℕ → List ℕ
sector_read sd folders rooms k =
    if nat_lt k (size_in sd (folders (k / sectors_of_step))) then sector_of (rooms (k / sectors_of_step)) (k % sectors_of_step) else []

-- the host saw these bytes in a sector of the leases file, or the file ended before it
abbrev pub IsReadIn : ℕ → Id → ℕ → List ℕ → Content → Type 0
IsReadIn host sd k bytes d =
    (f : File) × (d.file (leases_of sd) ≡ Some f) × (((k < f.size) × Sees host f k bytes) ⊎ ((f.size ≤ k) × (bytes ≡ [])))

-- a sector with this number and these bytes has this lease of the image
pub record HasLease (image : Id) (k : ℕ) (bytes : List ℕ) (a : ℕ × LeaseRecord) : Type 0 where
  pub number : a.0 ≡ k
  pub lease : sector_in bytes ≡ Some (Lease a.1)
  pub image_is : a.1.image ≡ image

-- a sector with this number and these bytes is empty
pub record IsEmptySector (k : ℕ) (bytes : List ℕ) (a : ℕ) : Type 0 where
  pub number : a ≡ k
  pub empty : sector_in bytes ≡ Some Empty

-- The answer is that of the least sector from 1 to below the bound that has one. It is none where no sector has one.
abbrev pub IsLeast : {A : Type 0} → (ℕ → A → Type 0) → ℕ → Option A → Type 0
IsLeast {A} Has bound None = (j : ℕ) (a : A) → 0 < j → j < bound → Has j a → ⊥
IsLeast {A} Has bound (Some a) = (k : ℕ) × (0 < k) × (k < bound) × Has k a × ((j : ℕ) (b : A) → 0 < j → j < k → Has j b → ⊥)
