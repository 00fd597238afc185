-- What the steps leave that write the task's texts: that of the open task, and that of the task that is done.
use Rattle.std.proofs.Common.{◌≡◌, ◌⊎◌, ℕ, Some, refl, sym, ap, ◌∙◌, subst, inl, inr}
use Rattle.sd_names.specs.UpSet.{Hosts}
use Rattle.sd_names.specs.declared.id.Id.{Id}
use Rattle.sd_names.specs.declared.place.Dir.{Dir}
use Rattle.sd_names.specs.declared.place.Dir.TheVariants as dir
use Rattle.sd_names.specs.declared.place.Place.{Place}
use Rattle.sd_names.specs.declared.refusal.Refusal.{Refusal}
use Rattle.sd_names.specs.declared.refusal.Refusal.TheVariants.{DiskFault}
use Rattle.sd_names.specs.declared.turn.Turn.TheVariants.{More, Done, Ended}
use Rattle.shared_disk.specs.Content.{Content}
use Rattle.lease_area.specs.Hold.{leases_of, record_of, slot_of}
use Rattle.lease_area.specs.declared.lease.Lease.{Lease as Held}
use Rattle.task_files.specs.TaskFile.{HasTask}
use Rattle.task_files.specs.Write.{WriteSteps, file_of, volatile_of}
use Rattle.task_files.specs.declared.write.TaskWrite.{TaskWrite}
use Rattle.image_creating.specs.Inner.{IsSameText}
use Rattle.image_creating.specs.Sectors.{IsUnnamed}
use Rattle.image_removing.specs.Removing.{IsBegun as IsRemovalBegun, removed_folder as removed_of, own_folder as own_of}
use Rattle.image_removing.specs.Steps.{HaveIds, IsGone, Knows as KnowsRemoving, KnowsIn}
use Rattle.image_removing.specs.declared.removing.ImageRemoving.{ImageRemoving}
use Rattle.image_removing.specs.declared.removing.Stage.{Stage as RemovalStage}
use Rattle.image_deleting.specs.Calls.{IsEnded, IsOpened, WriteTurn}
use Rattle.image_deleting.specs.Deleting.{DeleteTurn}
use Rattle.image_deleting.specs.Knowing.{HasIds, IsEnding, IsHeld, IsOf, IsOpening}
use Rattle.image_deleting.specs.RemovalTask.{HasNone, IsDone, IsOpen, domain_of, image_of, own_folder, place_of, removed_folder}
use Rattle.image_deleting.specs.Standing.{IsBeingRemoved, IsDeleted, IsTaken}
use Rattle.image_deleting.specs.Steps.{After, IsUntouched, StepsIn}
use Rattle.image_deleting.specs.declared.deleting.Stage.TheVariants.{Opening, Removing, Ending}
use Rattle.image_deleting.specs.declared.removal_task.RemovalTask.{RemovalTask}
use Rattle.image_deleting.proofs.Apart.{apart_text, ids_same, leases_beside, untouched_text}
use Rattle.image_deleting.proofs.Standing.{stands_on_each}
use Rattle.image_deleting.proofs.Turns.{after_ended, after_more}

-- a lease in a leases file that is as it was
pub held_same : (t : RemovalTask) (lease : Held) (host : ℕ) (d e : Content) → e.file (leases_of (domain_of t)) ≡ d.file (leases_of (domain_of t)) → IsHeld t lease host d → IsHeld t lease host e
held_same t lease host d e same is = record {
  domain = is.domain;
  lease_is = is.lease_is;
  stands = record { file = is.stands.file; there = same ∙ is.stands.there; within = is.stands.within; settled = is.stands.settled; bytes_are = is.stands.bytes_are };
  only = (is.only.0, same ∙ is.only.1, is.only.2, is.only.3);
}

pub open_same : (t : RemovalTask) (d e : Content) → e.file (place_of t) ≡ d.file (place_of t) → IsOpen t d → IsOpen t e
open_same t d e same is = (is.0, same ∙ is.1, is.2)

-- ---- the removal that begins

pub of_begun : (t : RemovalTask) (r : ImageRemoving) → IsRemovalBegun (domain_of t) (image_of t) r → IsOf t r
of_begun t r begun = record {
  own = ap (λ (sd : Id). dir.Image sd r.image) begun.domain ∙ ap (λ (i : Id). dir.Image (domain_of t) i) begun.image_is;
  removed = ap (λ (sd : Id). dir.Removed sd r.image) begun.domain ∙ ap (λ (i : Id). dir.Removed (domain_of t) i) begun.image_is;
}

removal_knows : (t : RemovalTask) (r : ImageRemoving) (e : Content) → IsRemovalBegun (domain_of t) (image_of t) r → HasIds t e → KnowsRemoving r e
removal_knows t r e begun ids =
    let of = of_begun t r begun in
    subst (λ (s : RemovalStage). KnowsIn s (own_of r) (removed_of r) e) (sym begun.stage) (
      subst (λ (q : Dir). HaveIds q (removed_of r) e) (sym of.own) (subst (λ (q : Dir). HaveIds (own_folder t) q e) (sym of.removed) ids),
      (λ n shows. tt, tt),
    )

-- ---- the open task's text

module _ (t : RemovalTask) (lease : Held) (w : TaskWrite) (host faults : ℕ) (up : Hosts) (turn : DeleteTurn) (d e : Content) (known : IsOpening t lease w host d) where
  abbrev Writes : WriteTurn → Type 0
  Writes step = WriteSteps w host faults t.begun step d e

  untouched : (step : WriteTurn) → Writes step → IsUntouched t d e
  untouched step writes = untouched_text t host d e (file_of w) (volatile_of w) known.writing.file known.writing.volatile writes.apart

  held_on : (step : WriteTurn) → Writes step → IsHeld t lease host e
  held_on step writes = held_same t lease host d e (leases_beside t host d e (file_of w) (volatile_of w) known.writing.file known.writing.volatile writes.apart) known.held

  tasks_on : (step : WriteTurn) → Writes step → e.dir (dir.Tasks t.master) ≡ d.dir (dir.Tasks t.master)
  tasks_on step writes = writes.apart.dirs (dir.Tasks t.master)

  ids_on : (step : WriteTurn) → Writes step → HasIds t e
  ids_on step writes = ids_same t host d e (untouched step writes) known.fresh.ids

  abbrev StandsNow : Type 0
  StandsNow = IsTaken t host e ⊎ IsBeingRemoved t host e

  opened : (step : WriteTurn) → Writes step → StandsNow → After turn (Opening lease w) t host up faults d e → StepsIn (Opening lease w) t host up faults turn d e
  opened step writes stands after = record {
    apart = apart_text t host d e (file_of w) (volatile_of w) known.writing.file known.writing.volatile writes.apart;
    stays = untouched step writes;
    leaves = stands_on_each (Opening lease w) t host e stands;
    after = after;
  }

  none_yet : e.file (file_of w) ≡ d.file (file_of w) → HasNone t e
  none_yet same = ap (λ (p : Place). e.file p) (sym known.writing.file) ∙ same ∙ ap (λ (p : Place). d.file p) known.writing.file ∙ known.fresh.task

  open_now : HasTask (file_of w) (Some t.begun) e → IsOpen t e
  open_now has = subst (λ (p : Place). HasTask p (Some t.begun) e) known.writing.file has

  with_none : (step : WriteTurn) → Writes step → e.file (file_of w) ≡ d.file (file_of w) → StandsNow
  with_none step writes same = let held = held_on step writes in inl (record { task = none_yet same; sector = (slot_of lease, record_of lease, held.lease_is, held.stands) })

  with_text : (step : WriteTurn) → Writes step → HasTask (file_of w) (Some t.begun) e → StandsNow
  with_text step writes has = let held = held_on step writes in inr (record { task = open_now has; sector = (slot_of lease, record_of lease, held.lease_is, held.stands) })

  either : (step : WriteTurn) → Writes step → StandsNow
  either step writes = by_case writes.file
    where
      by_case : (e.file (file_of w) ≡ d.file (file_of w)) ⊎ HasTask (file_of w) (Some t.begun) e → StandsNow
      by_case (inl same) = with_none step writes same
      by_case (inr has) = with_text step writes has

  pub open_step : (step : WriteTurn) → Writes step → IsSameText w step → IsOpened t lease step turn → StepsIn (Opening lease w) t host up faults turn d e
  open_step (More next) writes same by =
      opened (More next) writes (with_none (More next) writes writes.after.1) (after_more t (Opening lease w) (Opening lease next) host up faults turn d e by (record {
        fresh = record { tasks = tasks_on (More next) writes ∙ known.fresh.tasks; ids = ids_on (More next) writes; task = none_yet writes.after.1 };
        held = held_on (More next) writes;
        writing = record { file = same.target ∙ known.writing.file; volatile = same.volatile ∙ known.writing.volatile; write = writes.after.0 };
      }))
  open_step (Done u) writes same by =
      opened (Done u) writes (with_text (Done u) writes writes.after.0) (after_more t (Opening lease w) (Removing lease by.0) host up faults turn d e by.1 (record {
        tasks = tasks_on (Done u) writes ∙ known.fresh.tasks;
        task = open_now writes.after.0;
        held = held_on (Done u) writes;
        same = of_begun t by.0 by.2;
        removing = removal_knows t by.0 e by.2 (ids_on (Done u) writes);
      }))
  open_step (Ended u refusal) writes same by =
      opened (Ended u refusal) writes (either (Ended u refusal) writes)
      (after_ended t (Opening lease w) host up faults turn (DiskFault faults) d e (by ∙ ap (λ (r : Refusal). Ended tt r) writes.after.0) refl)

-- ---- the text of the task that is done

module _ (t : RemovalTask) (w : TaskWrite) (host faults : ℕ) (up : Hosts) (turn : DeleteTurn) (d e : Content) (known : IsEnding t w host d) where
  abbrev WritesEnd : WriteTurn → Type 0
  WritesEnd step = WriteSteps w host faults t.done step d e

  gone_on : (step : WriteTurn) → WritesEnd step → IsGone (domain_of t) (image_of t) e
  gone_on step writes = record { own = writes.apart.dirs (own_folder t) ∙ known.gone.own; removed = writes.apart.dirs (removed_folder t) ∙ known.gone.removed }

  unnamed_on : (step : WriteTurn) → WritesEnd step → IsUnnamed (domain_of t) (image_of t) e
  unnamed_on step writes =
      let none = known.unnamed in
      (none.0, leases_beside t host d e (file_of w) (volatile_of w) known.writing.file known.writing.volatile writes.apart ∙ none.1, none.2, none.3)

  open_yet : e.file (file_of w) ≡ d.file (file_of w) → IsOpen t e
  open_yet same = open_same t d e (ap (λ (p : Place). e.file p) (sym known.writing.file) ∙ same ∙ ap (λ (p : Place). d.file p) known.writing.file) known.task

  done_now : HasTask (file_of w) (Some t.done) e → IsDone t e
  done_now has = subst (λ (p : Place). HasTask p (Some t.done) e) known.writing.file has

  ended : (step : WriteTurn) → WritesEnd step → IsOpen t e ⊎ IsDone t e → After turn (Ending w) t host up faults d e → StepsIn (Ending w) t host up faults turn d e
  ended step writes text after = record {
    apart = apart_text t host d e (file_of w) (volatile_of w) known.writing.file known.writing.volatile writes.apart;
    stays = untouched_text t host d e (file_of w) (volatile_of w) known.writing.file known.writing.volatile writes.apart;
    leaves = stands_on_each (Ending w) t host e (record { gone = gone_on step writes; sector = unnamed_on step writes; task = text });
    after = after;
  }

  open_or_done : (step : WriteTurn) → WritesEnd step → IsOpen t e ⊎ IsDone t e
  open_or_done step writes = by_case writes.file
    where
      by_case : (e.file (file_of w) ≡ d.file (file_of w)) ⊎ HasTask (file_of w) (Some t.done) e → IsOpen t e ⊎ IsDone t e
      by_case (inl same) = inl (open_yet same)
      by_case (inr has) = inr (done_now has)

  deleted : (u : Unit {0}) → WritesEnd (Done u) → IsDeleted t e
  deleted u writes = record { gone = gone_on (Done u) writes; sector = unnamed_on (Done u) writes; task = done_now writes.after.0 }

  pub end_step : (step : WriteTurn) → WritesEnd step → IsSameText w step → IsEnded t step turn → StepsIn (Ending w) t host up faults turn d e
  end_step (More next) writes same by =
      ended (More next) writes (inl (open_yet writes.after.1)) (after_more t (Ending w) (Ending next) host up faults turn d e by (record {
        task = open_yet writes.after.1;
        gone = gone_on (More next) writes;
        unnamed = unnamed_on (More next) writes;
        writing = record { file = same.target ∙ known.writing.file; volatile = same.volatile ∙ known.writing.volatile; write = writes.after.0 };
      }))
  end_step (Done u) writes same by =
      ended (Done u) writes (inr (done_now writes.after.0)) (subst (λ (z : DeleteTurn). After z (Ending w) t host up faults d e) (sym by) (deleted u writes))
  end_step (Ended u refusal) writes same by =
      ended (Ended u refusal) writes (open_or_done (Ended u refusal) writes)
      (after_ended t (Ending w) host up faults turn (DiskFault faults) d e (by ∙ ap (λ (r : Refusal). Ended tt r) writes.after.0) refl)
