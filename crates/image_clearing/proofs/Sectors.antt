-- What stands in the image's sector, behind an exchange, beside other changes, and on each outcome.
use Rattle.std.proofs.Common.{◌≡◌, ◌<◌, ℕ, List, eq-eqb, refl, ◌∙◌, subst, inl, inr}
use Rattle.sd_names.specs.declared.id.Id.{Id}
use Rattle.shared_disk.specs.Changes.{exchanged}
use Rattle.shared_disk.specs.Content.{Content, File}
use Rattle.shared_disk.specs.Crash.{IsOutcome, IsSettled}
use Rattle.shared_disk.proofs.AtPlace.{one_file, settled_stays}
use Rattle.shared_disk.proofs.Toolkit.{exchanged_settled}
use Rattle.lease_area.specs.Hold.{IsMoved, Stands, leases_of}
use Rattle.lease_area.specs.Sector.{sector_bytes}
use Rattle.lease_area.specs.declared.sector.LeaseRecord.{LeaseRecord}
use Rattle.lease_area.specs.declared.sector.Sector.{Sector}
use Rattle.lease_area.specs.declared.sector.Sector.TheVariants.{Empty}
use Rattle.image_removing.specs.Steps.{IsGone}
use Rattle.image_clearing.specs.Knowing.{IsHeld}
use Rattle.image_clearing.specs.Standing.{IsLeft, IsLeftOnEach}

pub moved_stands : (d e : Content) (sd : Id) (slot : ℕ) (bytes : List ℕ) (new : Sector) → Stands d sd slot bytes → IsMoved d sd slot new e → Stands e sd slot (sector_bytes new)
moved_stands d e sd slot bytes new stands moved =
    let same : stands.file ≡ moved.0 = one_file stands.file moved.0 (d.file (leases_of sd)) stands.there moved.1 in
    record {
      file = exchanged slot (sector_bytes new) moved.0;
      there = moved.2.here;
      within = subst (λ (f : File). slot < f.size) same stands.within;
      settled = exchanged_settled slot (sector_bytes new) moved.0 (subst IsSettled same stands.settled);
      bytes_are = rw (eq-eqb slot slot refl) refl;
    }

stands_same : (d e : Content) (sd : Id) (slot : ℕ) (bytes : List ℕ) → e.file (leases_of sd) ≡ d.file (leases_of sd) → Stands d sd slot bytes → Stands e sd slot bytes
stands_same d e sd slot bytes same stands =
    record { file = stands.file; there = same ∙ stands.there; within = stands.within; settled = stands.settled; bytes_are = stands.bytes_are }

pub held_same : (sd image : Id) (slot : ℕ) (r : LeaseRecord) (d e : Content) → e.file (leases_of sd) ≡ d.file (leases_of sd) → IsHeld sd image slot r d → IsHeld sd image slot r e
held_same sd image slot r d e same is = record { stands = stands_same d e sd slot _ same is.stands; slot_is = is.slot_is; reads = is.reads; image_is = is.image_is; held = is.held }

stands_stays : (d o : Content) (sd : Id) (slot : ℕ) (bytes : List ℕ) → IsOutcome d o → Stands d sd slot bytes → Stands o sd slot bytes
stands_stays d o sd slot bytes out stands = record {
  file = stands.file;
  there = settled_stays d o (leases_of sd) stands.file stands.there stands.settled out;
  within = stands.within;
  settled = stands.settled;
  bytes_are = stands.bytes_are;
}

gone_stays : (sd image : Id) (d o : Content) → IsOutcome d o → IsGone sd image d → IsGone sd image o
gone_stays sd image d o out gone = record { own = out.dirs _ ∙ gone.own; removed = out.dirs _ ∙ gone.removed }

left_stays : (sd image : Id) (slot : ℕ) (r : LeaseRecord) (d o : Content) → IsOutcome d o → IsLeft sd image slot r d → IsLeft sd image slot r o
left_stays sd image slot r d o out (inl under) = inl (stands_stays d o sd slot _ out under)
left_stays sd image slot r d o out (inr is) = inr (record { gone = gone_stays sd image d o out is.gone; empty = stands_stays d o sd slot (sector_bytes Empty) out is.empty })

pub left_on_each : (sd image : Id) (slot : ℕ) (r : LeaseRecord) (d : Content) → IsLeft sd image slot r d → IsLeftOnEach sd image slot r d
left_on_each sd image slot r d is = record { now = is; outcomes = λ o out. left_stays sd image slot r d o out is }
