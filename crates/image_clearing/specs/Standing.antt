-- What stands of an image that is cleared away, now and whatever crashes leave: it is under its sector, or it is gone and the
-- sector empty.
use Rattle.std.specs.Prelude.{◌⊎◌, ℕ}
use Rattle.sd_names.specs.declared.id.Id.{Id}
use Rattle.shared_disk.specs.Content.{Content}
use Rattle.shared_disk.specs.Crash.{IsOutcome}
use Rattle.lease_area.specs.Hold.{Stands}
use Rattle.lease_area.specs.Sector.{sector_bytes}
use Rattle.lease_area.specs.declared.sector.LeaseRecord.{LeaseRecord}
use Rattle.lease_area.specs.declared.sector.Sector.TheVariants.{Empty, Lease}
use Rattle.image_removing.specs.Steps.{IsGone}

-- this sector is the image's still
abbrev pub IsUnderSector : Id → ℕ → LeaseRecord → Content → Type 0
IsUnderSector sd slot r d = Stands d sd slot (sector_bytes (Lease r))

-- the image has no folder, under either name, and its sector is empty
pub record IsCleared (sd image : Id) (slot : ℕ) (d : Content) : Type 0 where
  pub gone : IsGone sd image d
  pub empty : Stands d sd slot (sector_bytes Empty)

abbrev pub IsLeft : Id → Id → ℕ → LeaseRecord → Content → Type 0
IsLeft sd image slot r d = IsUnderSector sd slot r d ⊎ IsCleared sd image slot d

-- so now, and whatever crashes leave
pub record IsLeftOnEach (sd image : Id) (slot : ℕ) (r : LeaseRecord) (d : Content) : Type 0 where
  pub now : IsLeft sd image slot r d
  pub outcomes : (o : Content) → IsOutcome d o → IsLeft sd image slot r o
