-- What the steps leave that take the sector, make the files, write the text of the task that is done, and free the sector.
use Rattle.std.proofs.Common.{◌≡◌, ◌⊎◌, ℕ, ◌<◌, true, List, Option, Some, Result, Ok, Err, eq-eqb, refl, sym, ap, ◌∙◌, subst, inl, inr, arith}
use Rattle.std.proofs.lemmas.Slice.Eq.{bytes_eq-Decides}
use Rattle.sd_names.specs.UpSet.{Hosts}
use Rattle.sd_names.specs.declared.id.Id.{Id}
use Rattle.sd_names.specs.declared.place.Dir.TheVariants as dir
use Rattle.sd_names.specs.declared.place.Place.{Place}
use Rattle.sd_names.specs.declared.refusal.Refusal.{Refusal}
use Rattle.sd_names.specs.declared.refusal.Refusal.TheVariants.{DiskFault}
use Rattle.sd_names.specs.declared.turn.Turn.TheVariants.{More, Done, Ended}
use Rattle.shared_disk.specs.Calls.{IsSame}
use Rattle.shared_disk.specs.Changes.{exchanged}
use Rattle.shared_disk.specs.Content.{Content, File}
use Rattle.shared_disk.specs.Crash.{IsSettled}
use Rattle.shared_disk.specs.WellFormed.{IsWellFormed}
use Rattle.shared_disk.proofs.AtPlace.{one_file}
use Rattle.shared_disk.proofs.Toolkit.{exchanged_settled}
use Rattle.lease_area.specs.Hold.{ByOneExchange, GivesUp, IsMoved, Stands, Takes as TakesSector, answer_at, domain_of as lease_domain, image_answer_to, image_refusal, leases_of, record_of, slot_of}
use Rattle.lease_area.specs.Move.{freed, made_by}
use Rattle.lease_area.specs.Record.{IsImageSlot}
use Rattle.lease_area.specs.Sector.{sector_bytes}
use Rattle.lease_area.specs.declared.lease.Lease.{Lease as Held}
use Rattle.lease_area.specs.declared.sector.Kind.TheVariants.{Task as ForTask}
use Rattle.lease_area.specs.declared.sector.LeaseRecord.{LeaseRecord}
use Rattle.lease_area.specs.declared.sector.Sector.{Sector}
use Rattle.lease_area.specs.declared.sector.Sector.TheVariants.{Empty, Lease}
use Rattle.lease_area.proofs.ByExchange.{leaves}
use Rattle.task_files.specs.TaskFile.{HasTask}
use Rattle.task_files.specs.Write.{WriteSteps, file_of, volatile_of}
use Rattle.task_files.specs.declared.write.TaskWrite.{TaskWrite}
use Rattle.image_making.specs.Making.{image_of as made_in}
use Rattle.image_making.specs.NewImage.{IsImage, IsNoneOrWhole, folder_of, text_place}
use Rattle.image_making.specs.Steps.{IsReady as IsMakingReady, Knows as KnowsMaking, MakeSteps, MakeTurn}
use Rattle.image_making.specs.declared.making.ImageMaking.{ImageMaking}
use Rattle.image_making.specs.declared.making.NewImage.{NewImage}
use Rattle.image_making.specs.declared.making.Stage.{Stage as MakingStage}
use Rattle.image_making.specs.declared.making.Stage.TheVariants as making
use Rattle.image_creating.specs.Calls.{IsEnded, IsMadeBy, ReleasedBy, TakenBy, WriteTurn}
use Rattle.image_creating.specs.Creating.{CreateTurn}
use Rattle.image_creating.specs.ImageTask.{IsDone, IsOpen, domain_of, free, held, image_of, master_of, place_of}
use Rattle.image_creating.specs.Inner.{IsSameImage, IsSameText}
use Rattle.image_creating.specs.Knowing.{IsEnding, IsHeld, IsMakingFiles, IsPlaced, IsReleasing, IsTaking}
use Rattle.image_creating.specs.Standing.{IsCreated, IsMade, IsStanding}
use Rattle.image_creating.specs.Steps.{After, StepsIn}
use Rattle.image_creating.specs.declared.creating.Stage.TheVariants.{Taking, Making, Ending, Releasing}
use Rattle.image_creating.specs.declared.image_task.ImageTask.{ImageTask}
use Rattle.image_creating.proofs.Apart.{apart_image, apart_same, apart_sector, apart_text, files_at_lease, files_beside, image_left, leases_at_image, leases_not_new, leases_not_task, task_at_image, tasks_not_folder}
use Rattle.image_creating.proofs.Sectors.{empty_bytes}
use Rattle.image_creating.proofs.Standing.{standing_on_each}
use Rattle.image_creating.proofs.TaskSteps.{absent, writing_begun}
use Rattle.image_creating.proofs.Turns.{after_ended, after_more}

-- ---- sectors

-- what an exchange put there stands there
moved_stands : (d e : Content) (sd : Id) (slot : ℕ) (bytes : List ℕ) (new : Sector) → Stands d sd slot bytes → IsMoved d sd slot new e → Stands e sd slot (sector_bytes new)
moved_stands d e sd slot bytes new stands moved =
    let same : stands.file ≡ moved.0 = one_file stands.file moved.0 (d.file (leases_of sd)) stands.there moved.1 in
    record {
      file = exchanged slot (sector_bytes new) moved.0;
      there = moved.2.here;
      within = subst (λ (f : File). slot < f.size) same stands.within;
      settled = exchanged_settled slot (sector_bytes new) moved.0 (subst IsSettled same stands.settled);
      bytes_are = rw (eq-eqb slot slot refl) refl;
    }

-- a sector of a file that is as it was
stands_same : (d e : Content) (sd : Id) (slot : ℕ) (bytes : List ℕ) → e.file (leases_of sd) ≡ d.file (leases_of sd) → Stands d sd slot bytes → Stands e sd slot bytes
stands_same d e sd slot bytes same stands =
    record { file = stands.file; there = same ∙ stands.there; within = stands.within; settled = stands.settled; bytes_are = stands.bytes_are }

held_same : (t : ImageTask) (lease : Held) (host : ℕ) (d e : Content) → e.file (leases_of (domain_of t)) ≡ d.file (leases_of (domain_of t)) → IsHeld t lease host d → IsHeld t lease host e
held_same t lease host d e same is = record {
  domain = is.domain;
  lease_is = is.lease_is;
  stands = stands_same d e (domain_of t) (slot_of lease) (sector_bytes (held t host)) same is.stands;
}

task_same : (t : ImageTask) (d e : Content) → e.file (place_of t) ≡ d.file (place_of t) → IsOpen t d → IsOpen t e
task_same t d e same is = (is.0, same ∙ is.1, is.2)

done_same : (t : ImageTask) (d e : Content) → e.file (place_of t) ≡ d.file (place_of t) → IsDone t d → IsDone t e
done_same t d e same is = (is.0, same ∙ is.1, is.2)

-- ---- the sector is taken

-- the answer where the expected sector stands there
answer_here : (r : LeaseRecord) (refuse : Option Sector → Refusal) (expect : Sector) → answer_at (Some r) refuse expect (sector_bytes expect) ≡ Ok r
answer_here r refuse expect = rw ((bytes_eq-Decides (sector_bytes expect) (sector_bytes expect)).1 refl) refl

abbrev record_or : LeaseRecord → Result LeaseRecord Refusal → LeaseRecord
record_or other (Ok r) = r
record_or other (Err refusal) = other

taken_is : (r new : LeaseRecord) (answer : Result LeaseRecord Refusal) → answer ≡ Ok r → answer ≡ Ok new → new ≡ r
taken_is r new answer first second = ap (λ (a : Result LeaseRecord Refusal). record_or r a) (sym second ∙ first)

abbrev HasRecord : Result LeaseRecord Refusal → Type 0
HasRecord (Ok r) = Unit {0}
HasRecord (Err refusal) = ⊥

not_refused : (r : LeaseRecord) (refusal : Refusal) (answer : Result LeaseRecord Refusal) → answer ≡ Ok r → answer ≡ Err refusal → ⊥
not_refused r refusal answer first second = subst (λ (a : Result LeaseRecord Refusal). HasRecord a) (sym first ∙ second) tt

module _ (t : ImageTask) (x : NewImage) (m : ImageMaking) (slot host faults : ℕ) (up : Hosts) (turn : CreateTurn) (d e : Content) (well : IsWellFormed e) (old : IsWellFormed d) (image_slot : IsImageSlot slot)
    (known : IsTaking t x m slot d) where
  stood : Stands d (domain_of t) slot (sector_bytes Empty)
  stood =
      let none = known.placed.unnamed in
      let least = known.placed.empty in
      let same : least.0 ≡ none.0 = one_file least.0 none.0 (d.file (leases_of (domain_of t))) least.1 none.1 in
      record {
        file = none.0;
        there = none.1;
        within = omega (arith, none.2.size, image_slot.high);
        settled = none.2.settled;
        bytes_are = ap (λ (f : File). f.stable slot) (sym same) ∙ empty_bytes (least.0.stable slot) least.2.empty;
      }

  abbrev answer_now : Result LeaseRecord Refusal
  answer_now = answer_at (Some (made_by host (image_of t))) (image_refusal up host (image_of t)) Empty (sector_bytes Empty)

  answers : answer_now ≡ Ok (made_by host (image_of t))
  answers = answer_here (made_by host (image_of t)) (image_refusal up host (image_of t)) Empty

  abbrev MovedHere : Type 0
  MovedHere = IsMoved d (domain_of t) slot (held t host) e

  begun_at : MovedHere → KnowsMaking m host e
  begun_at moved =
      let begun = known.placed.fresh.making in
      subst (λ (s : MakingStage). IsMakingReady s (made_in m) host e) (sym begun.stage)
      (subst (λ (y : NewImage). IsMakingReady making.Begun y host e) (sym begun.image)
      (record { above = moved.2.dirs (dir.Images x.says.domain) ∙ known.placed.fresh.images; none = moved.2.dirs (folder_of x) ∙ known.placed.none }))

  task_here : MovedHere → e.file (place_of t) ≡ d.file (place_of t)
  task_here moved = moved.2.others (place_of t) (λ same. leases_not_task t (sym same))

  text_none : MovedHere → IsNoneOrWhole x e
  text_none moved = inl (files_at_lease t x host d e slot (held t host) moved (text_place x) refl ∙ (absent t x m slot host d old known.placed (inr known.task)).text)

  moved_after : MovedHere → After turn t x host faults d e → StepsIn (Taking m slot) t x host faults turn d e
  moved_after moved after = record {
    apart = apart_sector t x host d e slot Empty (held t host) stood moved (λ is. inr (inl is));
    leaves = standing_on_each t x host e (inr (inl (record {
      task = task_same t d e (task_here moved) known.task;
      sector = (slot, moved_stands d e (domain_of t) slot (sector_bytes Empty) (held t host) stood moved);
      files = text_none moved;
    })));
    after = after;
  }

  same_after : IsSame d e → After turn t x host faults d e → StepsIn (Taking m slot) t x host faults turn d e
  same_after same after = record {
    apart = apart_same t x host d e same;
    leaves = standing_on_each t x host e (inl (absent t x m slot host e well (subst (λ (c : Content). IsPlaced t x m slot c) (sym same) known.placed)
        (inr (subst (λ (c : Content). IsOpen t c) (sym same) known.task))));
    after = after;
  }

  as_made : (new : LeaseRecord) → answer_now ≡ Ok new → IsMoved d (domain_of t) slot (Lease new) e → MovedHere
  as_made new is moved = subst (λ (r : LeaseRecord). IsMoved d (domain_of t) slot (Lease r) e) (taken_is (made_by host (image_of t)) new answer_now answers is) moved

  taken : (result : Result LeaseRecord Refusal) → TakesSector (domain_of t) slot answer_now faults result d e → TakenBy t m slot result turn → StepsIn (Taking m slot) t x host faults turn d e
  taken (Ok new) takes by =
      let moved = as_made new takes.0 takes.1 in
      let lease = by.0 in
      let stands = moved_stands d e (domain_of t) slot (sector_bytes Empty) (held t host) stood moved in
      moved_after moved (after_more t (Making m lease) x host faults turn d e by.1 (record {
        same = known.placed.fresh.same;
        image = known.placed.fresh.making.image;
        tasks = moved.2.dirs (dir.Tasks (master_of t)) ∙ known.placed.fresh.tasks;
        task = task_same t d e (task_here moved) known.task;
        held = record {
          domain = by.2.domain;
          lease_is = by.2.lease_is ∙ taken_is (made_by host (image_of t)) new answer_now answers takes.0;
          stands = subst (λ (k : ℕ). Stands e (domain_of t) k (sector_bytes (held t host))) (sym by.2.slot_is) stands;
        };
        making = begun_at moved;
      }))
  taken (Err refusal) (inl takes) by = absurd (not_refused (made_by host (image_of t)) refusal answer_now answers takes.0)
  taken (Err refusal) (inr takes) by = fault takes.1
    where
      ended : After turn t x host faults d e
      ended = after_ended t x host faults turn (DiskFault faults) d e (by ∙ ap (λ (r : Refusal). Ended tt r) takes.0) refl

      fault : IsSame d e ⊎ ((new : LeaseRecord) × (answer_now ≡ Ok new) × IsMoved d (domain_of t) slot (Lease new) e) → StepsIn (Taking m slot) t x host faults turn d e
      fault (inl same) = same_after same ended
      fault (inr w) = moved_after (as_made w.0 w.1 w.2) ended

  pub take_step : (result : Result LeaseRecord Refusal) → ByOneExchange host (domain_of t) slot Empty (held t host) (image_answer_to up host ForTask (image_of t) Empty faults) result d e → TakenBy t m slot result turn
      → StepsIn (Taking m slot) t x host faults turn d e
  take_step result by follows =
      taken result (leaves host slot faults (domain_of t) (image_refusal up host (image_of t)) Empty (Some (made_by host (image_of t))) result (sector_bytes Empty) d e by stood) follows

-- ---- the files are made

module _ (t : ImageTask) (m : ImageMaking) (lease : Held) (host faults : ℕ) (turn : CreateTurn) (d e : Content) (known : IsMakingFiles t (made_in m) m lease host d) where
  abbrev x_of : NewImage
  x_of = made_in m

  task_on : (step : MakeTurn) → MakeSteps m host faults step d e → IsOpen t e
  task_on step makes = task_same t d e (task_at_image t x_of host d e makes.apart) known.task

  held_on : (step : MakeTurn) → MakeSteps m host faults step d e → IsHeld t lease host e
  held_on step makes = held_same t lease host d e (leases_at_image t x_of host d e makes.apart) known.held

  tasks_on : (step : MakeTurn) → MakeSteps m host faults step d e → e.dir (dir.Tasks (master_of t)) ≡ true
  tasks_on step makes = makes.apart.dirs (dir.Tasks (master_of t)) (tasks_not_folder t x_of) ∙ known.tasks

  made_by_step : (step : MakeTurn) → MakeSteps m host faults step d e → After turn t x_of host faults d e → StepsIn (Making m lease) t x_of host faults turn d e
  made_by_step step makes after = record {
    apart = apart_image t x_of host d e makes.apart;
    leaves = standing_on_each t x_of host e (inr (inl (record { task = task_on step makes; sector = (slot_of lease, (held_on step makes).stands); files = makes.stands.now })));
    after = after;
  }

  making_step : (step : MakeTurn) → MakeSteps m host faults step d e → IsSameImage m step → IsMadeBy t lease step turn → StepsIn (Making m lease) t x_of host faults turn d e
  making_step (More next) makes same by = made_by_step (More next) makes (after_more t (Making next lease) x_of host faults turn d e by (record {
    same = known.same;
    image = same;
    tasks = tasks_on (More next) makes;
    task = task_on (More next) makes;
    held = held_on (More next) makes;
    making = makes.after;
  }))
  making_step (Done u) makes same by = made_by_step (Done u) makes (after_more t (Ending lease by.0) x_of host faults turn d e by.1 (record {
    same = known.same;
    task = task_on (Done u) makes;
    held = held_on (Done u) makes;
    writing = writing_begun t t.done by.0 host e (tasks_on (Done u) makes) by.2;
    image = makes.after;
  }))
  making_step (Ended u refusal) makes same by =
      made_by_step (Ended u refusal) makes (after_ended t x_of host faults turn (DiskFault faults) d e (by ∙ ap (λ (r : Refusal). Ended tt r) makes.after) refl)

pub make_step : (t : ImageTask) (x : NewImage) (m : ImageMaking) (lease : Held) (host faults : ℕ) (turn : CreateTurn) (d e : Content) → IsMakingFiles t x m lease host d → (step : MakeTurn)
    → MakeSteps m host faults step d e → IsSameImage m step → IsMadeBy t lease step turn → StepsIn (Making m lease) t x host faults turn d e
make_step t x m lease host faults turn d e known step makes same by =
    subst (λ (y : NewImage). StepsIn (Making m lease) t y host faults turn d e) known.image
    (making_step t m lease host faults turn d e (subst (λ (y : NewImage). IsMakingFiles t y m lease host d) (sym known.image) known) step makes same by)

-- ---- the text of the task that is done is written

module _ (t : ImageTask) (x : NewImage) (lease : Held) (w : TaskWrite) (host faults : ℕ) (turn : CreateTurn) (d e : Content) (known : IsEnding t x lease w host d) where
  abbrev Writes : WriteTurn → Type 0
  Writes step = WriteSteps w host faults t.done step d e

  leases_on : (step : WriteTurn) → Writes step → e.file (leases_of (domain_of t)) ≡ d.file (leases_of (domain_of t))
  leases_on step writes =
      writes.apart.files (leases_of (domain_of t)) (λ same. leases_not_task t (same ∙ known.writing.file)) (λ same. leases_not_new t (same ∙ known.writing.volatile))

  held_by : (step : WriteTurn) → Writes step → IsHeld t lease host e
  held_by step writes = held_same t lease host d e (leases_on step writes) known.held

  image_by : (step : WriteTurn) → Writes step → IsImage x e
  image_by step writes =
      image_left x d e (writes.apart.dirs (folder_of x)) (files_beside t x host d e (file_of w) (volatile_of w) known.writing.file known.writing.volatile writes.apart) known.image

  open_yet : e.file (file_of w) ≡ d.file (file_of w) → IsOpen t e
  open_yet same = task_same t d e (ap (λ (p : Place). e.file p) (sym known.writing.file) ∙ same ∙ ap (λ (p : Place). d.file p) known.writing.file) known.task

  done_now : HasTask (file_of w) (Some t.done) e → IsDone t e
  done_now has = subst (λ (p : Place). HasTask p (Some t.done) e) known.writing.file has

  abbrev StandsNow : Type 0
  StandsNow = IsStanding t x host e

  still_open : (step : WriteTurn) → Writes step → IsOpen t e → StandsNow
  still_open step writes is = inr (inl (record { task = is; sector = (slot_of lease, (held_by step writes).stands); files = inr (image_by step writes) }))

  now_done : (step : WriteTurn) → Writes step → IsDone t e → StandsNow
  now_done step writes is = inr (inr (record { task = is; sector = inl (slot_of lease, (held_by step writes).stands); image = image_by step writes }))

  ended : (step : WriteTurn) → Writes step → StandsNow → After turn t x host faults d e → StepsIn (Ending lease w) t x host faults turn d e
  ended step writes is after = record {
    apart = apart_text t x host d e (file_of w) (volatile_of w) known.writing.file known.writing.volatile writes.apart;
    leaves = standing_on_each t x host e is;
    after = after;
  }

  either : (step : WriteTurn) → Writes step → StandsNow
  either step writes = by_case writes.file
    where
      by_case : (e.file (file_of w) ≡ d.file (file_of w)) ⊎ HasTask (file_of w) (Some t.done) e → StandsNow
      by_case (inl same) = still_open step writes (open_yet same)
      by_case (inr has) = now_done step writes (done_now has)

  pub end_step : (step : WriteTurn) → Writes step → IsSameText w step → IsEnded t lease step turn → StepsIn (Ending lease w) t x host faults turn d e
  end_step (More next) writes same by =
      ended (More next) writes (still_open (More next) writes (open_yet writes.after.1)) (after_more t (Ending lease next) x host faults turn d e by (record {
        same = known.same;
        task = open_yet writes.after.1;
        held = held_by (More next) writes;
        writing = record { file = same.target ∙ known.writing.file; volatile = same.volatile ∙ known.writing.volatile; write = writes.after.0 };
        image = image_by (More next) writes;
      }))
  end_step (Done u) writes same by =
      ended (Done u) writes (now_done (Done u) writes (done_now writes.after.0)) (after_more t (Releasing lease) x host faults turn d e by (record {
        same = known.same;
        task = done_now writes.after.0;
        held = held_by (Done u) writes;
        image = image_by (Done u) writes;
      }))
  end_step (Ended u refusal) writes same by =
      ended (Ended u refusal) writes (either (Ended u refusal) writes)
      (after_ended t x host faults turn (DiskFault faults) d e (by ∙ ap (λ (r : Refusal). Ended tt r) writes.after.0) refl)

-- ---- the sector is freed

module _ (t : ImageTask) (x : NewImage) (lease : Held) (host faults : ℕ) (turn : CreateTurn) (d e : Content) (known : IsReleasing t x lease host d) where
  pub stood_for : Stands d (lease_domain lease) (slot_of lease) (sector_bytes (held t host))
  stood_for = subst (λ (sd : Id). Stands d sd (slot_of lease) (sector_bytes (held t host))) (sym known.held.domain) known.held.stands

  abbrev Freed : Type 0
  Freed = IsMoved d (domain_of t) (slot_of lease) (free t host) e

  freed_here : IsMoved d (lease_domain lease) (slot_of lease) (Lease (freed (record_of lease))) e → Freed
  freed_here moved =
      subst (λ (r : LeaseRecord). IsMoved d (domain_of t) (slot_of lease) (Lease (freed r)) e) known.held.lease_is
      (subst (λ (sd : Id). IsMoved d sd (slot_of lease) (Lease (freed (record_of lease))) e) known.held.domain moved)

  was_held : sector_bytes (held t host) ≡ sector_bytes (Lease (record_of lease))
  was_held = ap (λ (r : LeaseRecord). sector_bytes (Lease r)) (sym known.held.lease_is)

  created : Freed → IsCreated t x host e
  created moved = record {
    task = done_same t d e (moved.2.others (place_of t) (λ same. leases_not_task t (sym same))) known.task;
    sector = (slot_of lease, moved_stands d e (domain_of t) (slot_of lease) (sector_bytes (held t host)) (free t host) known.held.stands moved);
    image = image_left x d e (moved.2.dirs (folder_of x)) (files_at_lease t x host d e (slot_of lease) (free t host) moved) known.image;
  }

  freed_after : Freed → After turn t x host faults d e → StepsIn (Releasing lease) t x host faults turn d e
  freed_after moved after =
      let is = created moved in
      record {
        apart = apart_sector t x host d e (slot_of lease) (held t host) (free t host) known.held.stands moved (λ w. inr (inr w));
        leaves = standing_on_each t x host e (inr (inr (record { task = is.task; sector = inr is.sector; image = is.image })));
        after = after;
      }

  kept_after : IsSame d e → After turn t x host faults d e → StepsIn (Releasing lease) t x host faults turn d e
  kept_after same after = record {
    apart = apart_same t x host d e same;
    leaves = standing_on_each t x host e
        (inr (inr (subst (λ (c : Content). IsMade t x host c) (sym same) (record { task = known.task; sector = inl (slot_of lease, known.held.stands); image = known.image }))));
    after = after;
  }

  pub release_step : (result : Result (Unit {0}) Refusal)
      → GivesUp (lease_domain lease) (slot_of lease) (record_of lease) (Lease (freed (record_of lease))) faults (sector_bytes (held t host)) result d e → ReleasedBy result turn
      → StepsIn (Releasing lease) t x host faults turn d e
  release_step (Ok u) gives by =
      let moved = freed_here gives.1 in
      freed_after moved (subst (λ (z : CreateTurn). After z t x host faults d e) (sym by) (created moved))
  release_step (Err refusal) (inl gives) by = absurd (gives.0 was_held)
  release_step (Err refusal) (inr gives) by = fault gives.1
    where
      ended_by : After turn t x host faults d e
      ended_by = after_ended t x host faults turn (DiskFault faults) d e (by ∙ ap (λ (r : Refusal). Ended tt r) gives.0) refl

      fault : IsSame d e ⊎ ((sector_bytes (held t host) ≡ sector_bytes (Lease (record_of lease))) × IsMoved d (lease_domain lease) (slot_of lease) (Lease (freed (record_of lease))) e)
          → StepsIn (Releasing lease) t x host faults turn d e
      fault (inl same) = kept_after same ended_by
      fault (inr w) = freed_after (freed_here w.1) ended_by
