-- What the steps leave that remove the image's files, and that empty its sector.
use Rattle.std.proofs.Common.{◌≡◌, ◌⊎◌, ℕ, List, Result, Ok, Err, refl, sym, ap, ◌∙◌, subst, inl, inr}
use Rattle.sd_names.specs.UpSet.{Hosts}
use Rattle.sd_names.specs.declared.id.Id.{Id}
use Rattle.sd_names.specs.declared.place.Dir.{Dir}
use Rattle.sd_names.specs.declared.place.Dir.TheVariants as dir
use Rattle.sd_names.specs.declared.refusal.Refusal.{Refusal}
use Rattle.sd_names.specs.declared.refusal.Refusal.TheVariants.{DiskFault}
use Rattle.sd_names.specs.declared.turn.Turn.TheVariants.{More, Done, Ended}
use Rattle.shared_disk.specs.Calls.{IsSame}
use Rattle.shared_disk.specs.Changes.{exchanged}
use Rattle.shared_disk.specs.Content.{Content, File}
use Rattle.shared_disk.proofs.AtPlace.{one_file}
use Rattle.lease_area.specs.Hold.{GivesUp, IsMoved, Stands, domain_of as lease_domain, leases_of, record_of, slot_of}
use Rattle.lease_area.specs.Sector.{sector_bytes}
use Rattle.lease_area.specs.declared.lease.Lease.{Lease as Held}
use Rattle.lease_area.specs.declared.sector.Sector.TheVariants.{Empty, Lease}
use Rattle.image_creating.specs.Sectors.{IsArea, IsUnnamed}
use Rattle.image_removing.specs.Removing.{RemovalTurn}
use Rattle.image_removing.specs.Steps.{IsGone, Removal}
use Rattle.image_removing.specs.declared.removing.ImageRemoving.{ImageRemoving}
use Rattle.image_deleting.specs.Calls.{ClearedBy, IsRemovedBy}
use Rattle.image_deleting.specs.Deleting.{DeleteTurn}
use Rattle.image_deleting.specs.Inner.{IsSameImage}
use Rattle.image_deleting.specs.Knowing.{HasTasks, IsClearing, IsHeld, IsRemovingFiles}
use Rattle.image_deleting.specs.RemovalTask.{IsOpen, domain_of, image_of, own_folder, removed_folder}
use Rattle.image_deleting.specs.Sectors.{IsOnlyAt}
use Rattle.image_deleting.specs.Standing.{IsBeingRemoved}
use Rattle.image_deleting.specs.Steps.{After, IsSectorEmptied, StepsIn}
use Rattle.image_deleting.specs.declared.deleting.Stage.TheVariants.{Removing, Clearing, Ending}
use Rattle.image_deleting.specs.declared.removal_task.RemovalTask.{RemovalTask}
use Rattle.image_deleting.proofs.Apart.{apart_image, apart_same, apart_sector, leases_at_image, task_at_image, task_at_lease, tasks_at_image, untouched_same, untouched_sector}
use Rattle.image_deleting.proofs.Spelled.{area_after, unnamed_after}
use Rattle.image_deleting.proofs.Standing.{stands_on_each}
use Rattle.image_deleting.proofs.TakeStep.{writing_begun}
use Rattle.image_deleting.proofs.TextSteps.{held_same, open_same}
use Rattle.image_deleting.proofs.Turns.{after_ended, after_more}

-- the task is open and holds the lease
going : (t : RemovalTask) (lease : Held) (host : ℕ) (d : Content) → IsOpen t d → IsHeld t lease host d → IsBeingRemoved t host d
going t lease host d task held = record { task = task; sector = (slot_of lease, record_of lease, held.lease_is, held.stands) }

-- ---- the files are removed

module _ (t : RemovalTask) (lease : Held) (r : ImageRemoving) (host faults : ℕ) (up : Hosts) (turn : DeleteTurn) (d e : Content) (known : IsRemovingFiles t lease r host d) where
  abbrev Leaves : RemovalTurn → Type 0
  Leaves step = Removal r faults step d e

  tasks_on : (step : RemovalTurn) → Leaves step → HasTasks t e
  tasks_on step leaves = tasks_at_image t host d e r known.same faults step leaves ∙ known.tasks

  task_on : (step : RemovalTurn) → Leaves step → IsOpen t e
  task_on step leaves = open_same t d e (task_at_image t host d e r known.same faults step leaves) known.task

  held_on : (step : RemovalTurn) → Leaves step → IsHeld t lease host e
  held_on step leaves = held_same t lease host d e (leases_at_image t host d e r known.same faults step leaves) known.held

  removed_by : (step : RemovalTurn) → Leaves step → After turn (Removing lease r) t host up faults d e → StepsIn (Removing lease r) t host up faults turn d e
  removed_by step leaves after = record {
    apart = apart_image t host d e r known.same faults step leaves;
    stays = tt;
    leaves = stands_on_each (Removing lease r) t host e (going t lease host e (task_on step leaves) (held_on step leaves));
    after = after;
  }

  pub remove_step : (step : RemovalTurn) → Leaves step → IsSameImage r step → IsRemovedBy t lease step turn → StepsIn (Removing lease r) t host up faults turn d e
  remove_step (More next) leaves same by =
      removed_by (More next) leaves (after_more t (Removing lease r) (Removing lease next) host up faults turn d e by (record {
        tasks = tasks_on (More next) leaves;
        task = task_on (More next) leaves;
        held = held_on (More next) leaves;
        same = record { own = same.own ∙ known.same.own; removed = same.removed ∙ known.same.removed };
        removing = leaves.after known.removing;
      }))
  remove_step (Done u) leaves same by =
      let gone = leaves.after known.removing in
      removed_by (Done u) leaves (after_more t (Removing lease r) (Clearing lease) host up faults turn d e by (record {
        tasks = tasks_on (Done u) leaves;
        task = task_on (Done u) leaves;
        held = held_on (Done u) leaves;
        gone = record { own = ap (λ (q : Dir). e.dir q) (sym known.same.own) ∙ gone.own; removed = ap (λ (q : Dir). e.dir q) (sym known.same.removed) ∙ gone.removed };
      }))
  remove_step (Ended u refusal) leaves same by =
      removed_by (Ended u refusal) leaves
      (after_ended t (Removing lease r) host up faults turn (DiskFault faults) d e (by ∙ ap (λ (r : Refusal). Ended tt r) (leaves.after known.removing)) refl)

-- ---- the sector is emptied

module _ (t : RemovalTask) (lease : Held) (host faults : ℕ) (up : Hosts) (turn : DeleteTurn) (d e : Content) (known : IsClearing t lease host d) where
  abbrev held_bytes : List ℕ
  held_bytes = sector_bytes (Lease (record_of lease))

  pub stood_for : Stands d (lease_domain lease) (slot_of lease) held_bytes
  stood_for = subst (λ (sd : Id). Stands d sd (slot_of lease) held_bytes) (sym known.held.domain) known.held.stands

  abbrev Emptied : Type 0
  Emptied = IsMoved d (domain_of t) (slot_of lease) Empty e

  emptied_here : IsMoved d (lease_domain lease) (slot_of lease) Empty e → Emptied
  emptied_here moved = subst (λ (sd : Id). IsMoved d sd (slot_of lease) Empty e) known.held.domain moved

  module _ (moved : Emptied) where
    file_is : known.held.only.0 ≡ moved.0
    file_is = one_file known.held.only.0 moved.0 (d.file (leases_of (domain_of t))) known.held.only.1 moved.1

    unnamed : IsUnnamed (domain_of t) (image_of t) e
    unnamed = (
      exchanged (slot_of lease) (sector_bytes Empty) moved.0,
      moved.2.here,
      area_after (slot_of lease) (sector_bytes Empty) moved.0 (subst (λ (f : File). IsArea f) file_is known.held.only.2),
      unnamed_after (image_of t) (slot_of lease) moved.0 (subst (λ (f : File). IsOnlyAt (image_of t) (slot_of lease) f) file_is known.held.only.3),
    )

    gone : IsGone (domain_of t) (image_of t) e
    gone = record { own = moved.2.dirs (own_folder t) ∙ known.gone.own; removed = moved.2.dirs (removed_folder t) ∙ known.gone.removed }

    task_open : IsOpen t e
    task_open = open_same t d e (task_at_lease t host d e (slot_of lease) Empty moved) known.task

    sector_emptied : IsSectorEmptied t host d e
    sector_emptied =
        let stands = known.held.stands in (
          moved.0,
          slot_of lease,
          record_of lease,
          moved.1,
          ap (λ (f : File). f.stable (slot_of lease)) (one_file moved.0 stands.file (d.file (leases_of (domain_of t))) moved.1 stands.there) ∙ stands.bytes_are,
          known.held.lease_is,
          moved.2.here,
        )

    emptied_after : After turn (Clearing lease) t host up faults d e → StepsIn (Clearing lease) t host up faults turn d e
    emptied_after after = record {
      apart = apart_sector t host d e (slot_of lease) Empty moved (inr (inr sector_emptied));
      stays = untouched_sector t host d e (slot_of lease) Empty moved;
      leaves = stands_on_each (Clearing lease) t host e (inr (record { gone = gone; sector = unnamed; task = inl task_open }));
      after = after;
    }

  kept_after : IsSame d e → After turn (Clearing lease) t host up faults d e → StepsIn (Clearing lease) t host up faults turn d e
  kept_after same after = record {
    apart = apart_same t host d e same;
    stays = untouched_same t host d e same;
    leaves = stands_on_each (Clearing lease) t host e (inl (subst (λ (c : Content). IsBeingRemoved t host c) (sym same) (going t lease host d known.task known.held)));
    after = after;
  }

  pub clear_step : (result : Result (Unit {0}) Refusal) → GivesUp (lease_domain lease) (slot_of lease) (record_of lease) Empty faults held_bytes result d e → ClearedBy t result turn
      → StepsIn (Clearing lease) t host up faults turn d e
  clear_step (Ok u) gives by =
      let moved = emptied_here gives.1 in
      emptied_after moved (after_more t (Clearing lease) (Ending by.0) host up faults turn d e by.1 (record {
        task = task_open moved;
        gone = gone moved;
        unnamed = unnamed moved;
        writing = writing_begun t t.done by.0 host e (moved.2.dirs (dir.Tasks t.master) ∙ known.tasks) by.2;
      }))
  clear_step (Err refusal) (inl gives) by = absurd (gives.0 refl)
  clear_step (Err refusal) (inr gives) by = fault gives.1
    where
      ended_by : After turn (Clearing lease) t host up faults d e
      ended_by = after_ended t (Clearing lease) host up faults turn (DiskFault faults) d e (by ∙ ap (λ (r : Refusal). Ended tt r) gives.0) refl

      fault : IsSame d e ⊎ ((held_bytes ≡ sector_bytes (Lease (record_of lease))) × IsMoved d (lease_domain lease) (slot_of lease) Empty e) → StepsIn (Clearing lease) t host up faults turn d e
      fault (inl same) = kept_after same ended_by
      fault (inr w) = emptied_after (emptied_here w.1) ended_by
