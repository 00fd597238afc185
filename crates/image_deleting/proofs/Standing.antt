-- What stands of an image that is deleted stands on each outcome.
use Rattle.std.proofs.Common.{◌⊎◌, ℕ, Some, None, ◌∙◌, inl, inr}
use Rattle.sd_names.specs.declared.place.Dir.TheVariants as dir
use Rattle.shared_disk.specs.Content.{Content}
use Rattle.shared_disk.specs.Crash.{IsOutcome}
use Rattle.shared_disk.proofs.AtPlace.{settled_stays}
use Rattle.lease_area.specs.Hold.{leases_of}
use Rattle.task_files.proofs.Lives.{task_stays}
use Rattle.image_creating.specs.Sectors.{IsUnnamed}
use Rattle.image_removing.specs.Steps.{IsGone}
use Rattle.image_deleting.specs.RemovalTask.{HasHeld, HasNone, IsDone, IsOpen, domain_of, image_of, place_of}
use Rattle.image_deleting.specs.Sectors.{HasNamed}
use Rattle.image_deleting.specs.Standing.{IsBeingRemoved, IsDeleted, IsRemoved, IsTaken, IsUntaken, StandsIn, StandsOnEach}
use Rattle.image_deleting.specs.declared.deleting.Stage.{Stage}
use Rattle.image_deleting.specs.declared.deleting.Stage.TheVariants.{Scanning, Taking, Opening, Removing, Clearing, Ending}
use Rattle.image_deleting.specs.declared.removal_task.RemovalTask.{RemovalTask}

module _ (t : RemovalTask) (host : ℕ) (d o : Content) (out : IsOutcome d o) where
  held_stays : HasHeld t host d → HasHeld t host o
  held_stays has = (
    has.0,
    has.1,
    has.2,
    record {
      file = has.3.file;
      there = settled_stays d o (leases_of (domain_of t)) has.3.file has.3.there has.3.settled out;
      within = has.3.within;
      settled = has.3.settled;
      bytes_are = has.3.bytes_are;
    },
  )

  named_stays : HasNamed (domain_of t) (image_of t) d → HasNamed (domain_of t) (image_of t) o
  named_stays is = (is.0, settled_stays d o (leases_of (domain_of t)) is.0 is.1 is.2.settled out, is.2, is.3)

  unnamed_stays : IsUnnamed (domain_of t) (image_of t) d → IsUnnamed (domain_of t) (image_of t) o
  unnamed_stays is = (is.0, settled_stays d o (leases_of (domain_of t)) is.0 is.1 is.2.settled out, is.2, is.3)

  gone_stays : IsGone (domain_of t) (image_of t) d → IsGone (domain_of t) (image_of t) o
  gone_stays is = record { own = out.dirs (dir.Image (domain_of t) (image_of t)) ∙ is.own; removed = out.dirs (dir.Removed (domain_of t) (image_of t)) ∙ is.removed }

  none_stays : HasNone t d → HasNone t o
  none_stays is = task_stays d o (place_of t) None is out

  open_stays : IsOpen t d → IsOpen t o
  open_stays is = task_stays d o (place_of t) (Some t.begun) is out

  done_stays : IsDone t d → IsDone t o
  done_stays is = task_stays d o (place_of t) (Some t.done) is out

  text_stays : IsOpen t d ⊎ IsDone t d → IsOpen t o ⊎ IsDone t o
  text_stays (inl is) = inl (open_stays is)
  text_stays (inr is) = inr (done_stays is)

  untaken_stays : IsUntaken t d → IsUntaken t o
  untaken_stays is = record { task = none_stays is.task; sector = named_stays is.sector }

  taken_stays : IsTaken t host d → IsTaken t host o
  taken_stays is = record { task = none_stays is.task; sector = held_stays is.sector }

  going_stays : IsBeingRemoved t host d → IsBeingRemoved t host o
  going_stays is = record { task = open_stays is.task; sector = held_stays is.sector }

  removed_stays : IsRemoved t d → IsRemoved t o
  removed_stays is = record { gone = gone_stays is.gone; sector = unnamed_stays is.sector; task = text_stays is.task }

  pub deleted_stays : IsDeleted t d → IsDeleted t o
  deleted_stays is = record { gone = gone_stays is.gone; sector = unnamed_stays is.sector; task = done_stays is.task }

  stays : (s : Stage) → StandsIn s t host d → StandsIn s t host o
  stays (Scanning s) is = tt
  stays (Taking slot found) (inl is) = inl (untaken_stays is)
  stays (Taking slot found) (inr is) = inr (taken_stays is)
  stays (Opening lease w) (inl is) = inl (taken_stays is)
  stays (Opening lease w) (inr is) = inr (going_stays is)
  stays (Removing lease r) is = going_stays is
  stays (Clearing lease) (inl is) = inl (going_stays is)
  stays (Clearing lease) (inr is) = inr (removed_stays is)
  stays (Ending w) is = removed_stays is

pub stands_on_each : (s : Stage) (t : RemovalTask) (host : ℕ) (d : Content) → StandsIn s t host d → StandsOnEach s t host d
stands_on_each s t host d is = record { now = is; outcomes = λ o out. stays t host d o out s is }
