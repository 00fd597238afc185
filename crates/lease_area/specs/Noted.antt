-- What a scan of the leases file looks for.
use Rattle.std.specs.Prelude.{ℕ, zero, suc, ◌+◌, ◌==◌, if◌then◌else◌, List, Option, Some, None, option_map}
use Rattle.sd_names.specs.declared.id.Id.{Id}
use Rattle.shared_disk.specs.Content.{sector_of}
use Rattle.shared_disk.specs.Places.{id_is}
use Rattle.lease_area.specs.Sector.{sector_in}
use Rattle.lease_area.specs.declared.scanned.Scanned.{Scanned}
use Rattle.lease_area.specs.declared.sector.LeaseRecord.{LeaseRecord}
use Rattle.lease_area.specs.declared.sector.Sector.{Sector}
use Rattle.lease_area.specs.declared.sector.Sector.TheVariants.{Empty, Lease}

-- how many sectors are read in a step
abbrev pub sectors_of_step : ℕ
sectors_of_step = 128

-- the first answer that there is
abbrev pub or_else : {A : Type 0} → Option A → Option A → Option A
or_else None b = b
or_else (Some a) b = Some a

-- the first of the answers for 0 to n - 1 that there is
abbrev pub first_of : {A : Type 0} → (ℕ → Option A) → ℕ → Option A
first_of f zero = None
first_of f (suc n) = or_else (first_of f n) (f n)

-- the lease of an image that a sector has
abbrev pub lease_of : Id → Option Sector → Option LeaseRecord
lease_of image (Some (Lease r)) = if id_is r.image image then Some r else None
lease_of image _ = None

-- a sector's number, where it is empty
abbrev pub empty_slot : ℕ → Option Sector → Option ℕ
empty_slot slot (Some Empty) = Some slot
empty_slot slot _ = None

-- sector 0 is no image's
abbrev pub unless_role : {A : Type 0} → ℕ → Option A → Option A
unless_role slot answer = if slot == 0 then None else answer

-- the k-th sector of what was read from a sector on: with its number, the lease of the image; its number, where it is empty
abbrev pub lease_at : Id → ℕ → List ℕ → ℕ → Option (ℕ × LeaseRecord)
lease_at image from room k = unless_role (from + k) (option_map (λ r. (from + k, r)) (lease_of image (sector_in (sector_of room k))))

abbrev pub empty_at : ℕ → List ℕ → ℕ → Option ℕ
empty_at from room k = unless_role (from + k) (empty_slot (from + k) (sector_in (sector_of room k)))

-- what was seen before, and in this sector
abbrev pub noted_one : Id → ℕ → Option Sector → Scanned → Scanned
noted_one image slot sector s = record {
  found = or_else s.found (unless_role slot (option_map (λ r. (slot, r)) (lease_of image sector)));
  empty = or_else s.empty (unless_role slot (empty_slot slot sector));
}

-- what was seen before, and in the first n sectors of what was read from a sector on
abbrev pub noted : Id → ℕ → List ℕ → ℕ → Scanned → Scanned
noted image from room n s = record {
  found = or_else s.found (first_of (lease_at image from room) n);
  empty = or_else s.empty (first_of (empty_at from room) n);
}

-- nothing
abbrev pub nothing_seen : Scanned
nothing_seen = record { found = None; empty = None }
