-- What stands of a created image stands on each outcome.
use Rattle.std.proofs.Common.{◌⊎◌, ℕ, Some, None, ◌∙◌, inl, inr}
use Rattle.shared_disk.specs.Content.{Content}
use Rattle.shared_disk.specs.Crash.{IsFileOutcome, IsOutcome}
use Rattle.shared_disk.proofs.AtPlace.{also_none, settled_stays}
use Rattle.lease_area.specs.Hold.{leases_of}
use Rattle.lease_area.specs.declared.sector.Sector.{Sector}
use Rattle.task_files.proofs.Lives.{task_stays}
use Rattle.image_making.specs.NewImage.{text_place}
use Rattle.image_making.specs.declared.making.NewImage.{NewImage}
use Rattle.image_making.proofs.Parts.{image_stays, on_each}
use Rattle.image_creating.specs.ImageTask.{HasNone, HasSector, IsOpen, domain_of, free, held, image_of, place_of}
use Rattle.image_creating.specs.Sectors.{IsUnnamed}
use Rattle.image_creating.specs.Standing.{IsAbsent, IsCreated, IsMade, IsStanding, IsStandingOnEach}
use Rattle.image_creating.specs.declared.image_task.ImageTask.{ImageTask}

module _ (t : ImageTask) (x : NewImage) (host : ℕ) (d o : Content) (out : IsOutcome d o) where
  sector_stays : (s : Sector) → HasSector t s d → HasSector t s o
  sector_stays s has = (
    has.0,
    record {
      file = has.1.file;
      there = settled_stays d o (leases_of (domain_of t)) has.1.file has.1.there has.1.settled out;
      within = has.1.within;
      settled = has.1.settled;
      bytes_are = has.1.bytes_are;
    },
  )

  unnamed_stays : IsUnnamed (domain_of t) (image_of t) d → IsUnnamed (domain_of t) (image_of t) o
  unnamed_stays none = (none.0, settled_stays d o (leases_of (domain_of t)) none.0 none.1 none.2.settled out, none.2, none.3)

  text_stays : HasNone t d ⊎ IsOpen t d → HasNone t o ⊎ IsOpen t o
  text_stays (inl none) = inl (task_stays d o (place_of t) None none out)
  text_stays (inr is) = inr (task_stays d o (place_of t) (Some t.begun) is out)

  lease_stays : HasSector t (held t host) d ⊎ HasSector t (free t host) d → HasSector t (held t host) o ⊎ HasSector t (free t host) o
  lease_stays (inl has) = inl (sector_stays (held t host) has)
  lease_stays (inr has) = inr (sector_stays (free t host) has)

  absent_stays : IsAbsent t x d → IsAbsent t x o
  absent_stays is = record {
    folder = out.dirs _ ∙ is.folder;
    text = also_none IsFileOutcome (d.file (text_place x)) (o.file (text_place x)) (out.files (text_place x)) is.text;
    sector = unnamed_stays is.sector;
    task = text_stays is.task;
  }

  made_stays : IsMade t x host d → IsMade t x host o
  made_stays is = record { task = task_stays d o (place_of t) (Some t.done) is.task out; sector = lease_stays is.sector; image = image_stays x d o is.image out }

  stays : IsStanding t x host d → IsStanding t x host o
  stays (inl is) = inl (absent_stays is)
  stays (inr (inl is)) = inr (inl (record {
    task = task_stays d o (place_of t) (Some t.begun) is.task out;
    sector = sector_stays (held t host) is.sector;
    files = (on_each x d is.files).outcomes o out;
  }))
  stays (inr (inr is)) = inr (inr (made_stays is))

  pub created_stays : IsCreated t x host d → IsCreated t x host o
  created_stays is = record { task = task_stays d o (place_of t) (Some t.done) is.task out; sector = sector_stays (free t host) is.sector; image = image_stays x d o is.image out }

pub standing_on_each : (t : ImageTask) (x : NewImage) (host : ℕ) (d : Content) → IsStanding t x host d → IsStandingOnEach t x host d
standing_on_each t x host d is = record { now = is; outcomes = λ o out. stays t x host d o out is }
