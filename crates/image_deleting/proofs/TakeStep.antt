-- What the step leaves that takes the image's sector.
use Rattle.std.proofs.Common.{◌≡◌, ◌≢◌, ◌⊎◌, ℕ, ◌<◌, ◌&&◌, if◌then◌else◌, Bool, true, false, List, Option, Some, None, Result, Ok, Err, eq-eqb, refl, sym, ap, ◌∙◌, subst, inl, inr, arith}
use Rattle.std.proofs.lemmas.Bool.{false≢true}
use Rattle.std.proofs.lemmas.Option.{none-some}
use Rattle.std.proofs.lemmas.Slice.Eq.{bytes_eq-Decides}
use Rattle.std.specs.Str.{bytes_eq}
use Rattle.sd_names.specs.UpSet.{Hosts}
use Rattle.sd_names.specs.declared.id.Id.{Id}
use Rattle.sd_names.specs.declared.refusal.Refusal.{Refusal}
use Rattle.sd_names.specs.declared.refusal.Refusal.TheVariants.{DiskFault, ImageHeld}
use Rattle.sd_names.specs.declared.turn.Turn.TheVariants.{Ended}
use Rattle.shared_disk.specs.Calls.{IsSame}
use Rattle.shared_disk.specs.Changes.{exchanged}
use Rattle.shared_disk.specs.Content.{Content, File}
use Rattle.shared_disk.specs.Places.{id_is}
use Rattle.shared_disk.proofs.AtPlace.{one_file}
use Rattle.shared_disk.proofs.Places.{id_is-itself}
use Rattle.lease_area.specs.Hold.{ByOneExchange, IsMoved, Stands, Takes as TakesSector, answer_at, image_answer_to, image_refusal, leases_of, met_answer, record_of}
use Rattle.lease_area.specs.Move.{image_taken, may_take, next_sector, taken_by}
use Rattle.lease_area.specs.Record.{IsImageSlot}
use Rattle.lease_area.specs.Sector.{sector_bytes, sector_in}
use Rattle.lease_area.specs.declared.sector.Kind.TheVariants.{Task as ForTask}
use Rattle.lease_area.specs.declared.sector.LeaseRecord.{LeaseRecord}
use Rattle.lease_area.specs.declared.sector.Sector.{Sector}
use Rattle.lease_area.specs.declared.sector.Sector.TheVariants.{Lease}
use Rattle.lease_area.proofs.ByExchange.{leaves}
use Rattle.whole_file.specs.Replace.{IsReady as IsReplaceReady}
use Rattle.whole_file.specs.declared.replace.Stage.{Stage as ReplaceStage}
use Rattle.task_store.specs.TaskText.{text_of}
use Rattle.task_store.specs.declared.task.Task.{Task}
use Rattle.task_files.specs.Write.{volatile_of}
use Rattle.task_files.specs.declared.write.TaskWrite.{TaskWrite}
use Rattle.sd_names.specs.declared.place.Place.{Place}
use Rattle.image_creating.specs.Sectors.{IsArea, Names}
use Rattle.image_deleting.specs.Calls.{IsWriteBegun, TakenBy}
use Rattle.image_deleting.specs.Deleting.{DeleteTurn}
use Rattle.image_deleting.specs.Knowing.{HasTasks, IsFresh, IsTaking, IsWriting}
use Rattle.image_deleting.specs.RemovalTask.{IsTaskLease, domain_of, image_of, place_of}
use Rattle.image_deleting.specs.Sectors.{IsOnlyAt}
use Rattle.image_deleting.specs.Steps.{After, IsInUse, IsSectorTaken, StepsIn}
use Rattle.image_deleting.specs.declared.deleting.Stage.TheVariants.{Taking, Opening}
use Rattle.image_deleting.specs.declared.removal_task.RemovalTask.{RemovalTask}
use Rattle.image_deleting.proofs.Apart.{apart_same, apart_sector, ids_same, task_at_lease, untouched_same, untouched_sector}
use Rattle.image_deleting.proofs.Spelled.{area_after, lease_spelled, only_after}
use Rattle.image_deleting.proofs.Standing.{stands_on_each}
use Rattle.image_deleting.proofs.Turns.{after_ended, after_more}

-- a write of a text of the task that has begun
pub writing_begun : (t : RemovalTask) (text : Task) (w : TaskWrite) (host : ℕ) (d : Content) → HasTasks t d → IsWriteBegun t w → IsWriting t text w host d
writing_begun t text w host d tasks begun = record {
  file = begun.file;
  volatile = begun.volatile;
  write = record {
    folder = ap (λ (p : Place). d.dir p.dir) begun.file ∙ tasks;
    ready = subst (λ (s : ReplaceStage). IsReplaceReady s host (text_of text) (volatile_of w) d) (sym begun.stage) tt;
  };
}

-- ---- the answer

abbrev taken_record : Result LeaseRecord Refusal → Option LeaseRecord
taken_record (Ok r) = Some r
taken_record (Err refusal) = None

abbrev refused_by : Refusal → Result LeaseRecord Refusal → Refusal
refused_by other (Ok r) = other
refused_by other (Err refusal) = refusal

-- the new lease
ok_is : (o : Option LeaseRecord) (met other : Refusal) (b : Bool) (new : LeaseRecord) → (if b then met_answer o met else Err other) ≡ Ok new → o ≡ Some new
ok_is (Some r) met other true new is = ap (λ (a : Result LeaseRecord Refusal). taken_record a) is
ok_is None met other true new is = ap (λ (a : Result LeaseRecord Refusal). taken_record a) is
ok_is o met other false new is = absurd (none-some new (ap (λ (a : Result LeaseRecord Refusal). taken_record a) is))

-- the expected sector may not be taken, or another one stands there
abbrev IsNot : Option LeaseRecord → Refusal → Refusal → Bool → Refusal → Type 0
IsNot o met other b refusal = ((b ≡ true) × (o ≡ None) × (refusal ≡ met)) ⊎ ((b ≡ false) × (refusal ≡ other))

err_is : (o : Option LeaseRecord) (met other : Refusal) (b : Bool) (refusal : Refusal) → (if b then met_answer o met else Err other) ≡ Err refusal → IsNot o met other b refusal
err_is (Some r) met other true refusal is = absurd (none-some r (sym (ap (λ (a : Result LeaseRecord Refusal). taken_record a) is)))
err_is None met other true refusal is = inl (refl, refl, ap (λ (a : Result LeaseRecord Refusal). refused_by met a) (sym is))
err_is o met other false refusal is = inr (refl, ap (λ (a : Result LeaseRecord Refusal). refused_by other a) (sym is))

record_or : LeaseRecord → Option LeaseRecord → LeaseRecord
record_or other None = other
record_or other (Some r) = r

chosen : (b : Bool) (r new : LeaseRecord) → (if b then Some r else None) ≡ Some new → new ≡ r
unfolding record_or
chosen true r new is = ap (λ (o : Option LeaseRecord). record_or r o) (sym is)
chosen false r new is = absurd (none-some new is)

not_chosen : (named may : Bool) (r : LeaseRecord) → named ≡ true → (if named && may then Some r else None) ≡ None → may ≡ false
not_chosen true true r named is = absurd (none-some r (sym is))
not_chosen true false r named is = refl
not_chosen false may r named is = absurd (false≢true named)

-- the owner that is told
told_owner : (up : Hosts) (host : ℕ) (image : Id) (s : LeaseRecord) → s.image ≡ image → image_refusal up host image (Some (Lease s)) ≡ ImageHeld (if may_take up host s.kind s.owner then host else s.owner)
told_owner up host image s is = go (may_take up host s.kind s.owner) refl
  where
    named : id_is s.image image ≡ true
    named = ap (λ (i : Id). id_is s.image i) (sym is) ∙ id_is-itself s.image

    go : (b : Bool) → may_take up host s.kind s.owner ≡ b → image_refusal up host image (Some (Lease s)) ≡ ImageHeld (if may_take up host s.kind s.owner then host else s.owner)
    go true may = rw (named, may) refl
    go false may = rw (named, may) refl

-- ---- the step

module _ (t : RemovalTask) (slot : ℕ) (found : LeaseRecord) (host faults : ℕ) (up : Hosts) (turn : DeleteTurn) (d e : Content) (image_slot : IsImageSlot slot) (known : IsTaking t slot found d) where
  abbrev bytes_here : List ℕ
  bytes_here = known.file.stable slot

  stood : Stands d (domain_of t) slot bytes_here
  stood = record { file = known.file; there = known.there; within = omega (arith, known.area.size, image_slot.high); settled = known.area.settled; bytes_are = refl }

  abbrev new_now : Option LeaseRecord
  new_now = image_taken up host ForTask (image_of t) (Lease found)

  abbrev answer_now : Result LeaseRecord Refusal
  answer_now = answer_at new_now (image_refusal up host (image_of t)) (Lease found) bytes_here

  abbrev met_now : Refusal
  met_now = image_refusal up host (image_of t) (Some (Lease found))

  abbrev other_now : Refusal
  other_now = image_refusal up host (image_of t) (sector_in bytes_here)

  abbrev is_met : Bool
  is_met = bytes_eq bytes_here (sector_bytes (Lease found))

  new_is : (new : LeaseRecord) → answer_now ≡ Ok new → new ≡ taken_by host ForTask (Lease found)
  new_is new is =
      chosen (id_is found.image (image_of t) && may_take up host found.kind found.owner) (taken_by host ForTask (Lease found)) new (ok_is new_now met_now other_now is_met new is)

  lease_is : (new : LeaseRecord) → answer_now ≡ Ok new → IsTaskLease t host new
  lease_is new is =
      let e = new_is new is in
      record {
        kind_is = ap (λ (r : LeaseRecord). r.kind) e;
        owner_is = ap (λ (r : LeaseRecord). r.owner) e;
        image_is = ap (λ (r : LeaseRecord). r.image) e ∙ known.found_is;
      }

  module _ (new : LeaseRecord) (is : IsTaskLease t host new) (moved : IsMoved d (domain_of t) slot (Lease new) e) where
    file_is : known.file ≡ moved.0
    file_is = one_file known.file moved.0 (d.file (leases_of (domain_of t))) known.there moved.1

    stands_now : Stands e (domain_of t) slot (sector_bytes (Lease new))
    unfolding stood
    stands_now = record {
      file = exchanged slot (sector_bytes (Lease new)) moved.0;
      there = moved.2.here;
      within = subst (λ (f : File). slot < f.size) file_is stood.within;
      settled = (area_after slot (sector_bytes (Lease new)) moved.0 (subst (λ (f : File). IsArea f) file_is known.area)).settled;
      bytes_are = rw (eq-eqb slot slot refl) refl;
    }

    sector_taken : IsSectorTaken t host d e
    sector_taken = (moved.0, slot, new, moved.1, subst (λ (f : File). Names (image_of t) (f.stable slot)) file_is known.names, is, moved.2.here)

    fresh_now : IsFresh t e
    fresh_now = record {
      tasks = moved.2.dirs _ ∙ known.fresh.tasks;
      ids = ids_same t host d e (untouched_sector t host d e slot (Lease new) moved) known.fresh.ids;
      task = task_at_lease t host d e slot (Lease new) moved ∙ known.fresh.task;
    }

    moved_after : After turn (Taking slot found) t host up faults d e → StepsIn (Taking slot found) t host up faults turn d e
    moved_after after = record {
      apart = apart_sector t host d e slot (Lease new) moved (inr (inl sector_taken));
      stays = untouched_sector t host d e slot (Lease new) moved;
      leaves = stands_on_each (Taking slot found) t host e (inr (record { task = fresh_now.task; sector = (slot, new, is, stands_now) }));
      after = after;
    }

  same_after : IsSame d e → After turn (Taking slot found) t host up faults d e → StepsIn (Taking slot found) t host up faults turn d e
  same_after same after = record {
    apart = apart_same t host d e same;
    stays = untouched_same t host d e same;
    leaves = stands_on_each (Taking slot found) t host e (inl (record {
      task = ap (λ (c : Content). c.file (place_of t)) same ∙ known.fresh.task;
      sector = (known.file, ap (λ (c : Content). c.file (leases_of (domain_of t))) same ∙ known.there, known.area, (slot, image_slot, known.names));
    }));
    after = after;
  }

  -- the lease that stands there
  in_use : (refusal : Refusal) → answer_now ≡ Err refusal → (owner : ℕ) × (refusal ≡ ImageHeld owner) × IsInUse t found host up owner d
  in_use refusal is = by_case (err_is new_now met_now other_now is_met refusal is)
    where
      stands_as : (s : LeaseRecord) → bytes_here ≡ sector_bytes (Lease s) → s.image ≡ image_of t → (owner : ℕ)
          → ((may_take up host s.kind s.owner ≡ false) × (owner ≡ s.owner)) ⊎ ((may_take up host s.kind s.owner ≡ true) × (bytes_here ≢ sector_bytes (Lease found)) × (owner ≡ host)) → IsInUse t found host up owner d
      stands_as s stands image owner told = record { file = known.file; slot = slot; lease = s; there = known.there; stands = stands; image_is = image; told = told }

      other : (s : LeaseRecord) → sector_in bytes_here ≡ Some (Lease s) → s.image ≡ image_of t → bytes_here ≢ sector_bytes (Lease found) → (b : Bool) → may_take up host s.kind s.owner ≡ b → refusal ≡ other_now
          → (owner : ℕ) × (refusal ≡ ImageHeld owner) × IsInUse t found host up owner d
      other s stands image differs true may refused = (
        host,
        refused ∙ ap (λ (o : Option Sector). image_refusal up host (image_of t) o) stands ∙ told_owner up host (image_of t) s image ∙ ap (λ (b : Bool). ImageHeld (if b then host else s.owner)) may,
        stands_as s (lease_spelled bytes_here s stands) image host (inr (may, differs, refl)),
      )
      other s stands image differs false may refused = (
        s.owner,
        refused ∙ ap (λ (o : Option Sector). image_refusal up host (image_of t) o) stands ∙ told_owner up host (image_of t) s image ∙ ap (λ (b : Bool). ImageHeld (if b then host else s.owner)) may,
        stands_as s (lease_spelled bytes_here s stands) image s.owner (inl (may, refl)),
      )

      differ : is_met ≡ false → bytes_here ≢ sector_bytes (Lease found)
      differ not_met same = false≢true (sym not_met ∙ (bytes_eq-Decides bytes_here (sector_bytes (Lease found))).1 same)

      by_case : IsNot new_now met_now other_now is_met refusal → (owner : ℕ) × (refusal ≡ ImageHeld owner) × IsInUse t found host up owner d
      by_case (inl w) =
          let named : id_is found.image (image_of t) ≡ true = ap (λ (i : Id). id_is found.image i) (sym known.found_is) ∙ id_is-itself found.image in
          let may : may_take up host found.kind found.owner ≡ false =
          not_chosen (id_is found.image (image_of t)) (may_take up host found.kind found.owner) (taken_by host ForTask (Lease found)) named w.1 in (
            found.owner,
            w.2 ∙ told_owner up host (image_of t) found known.found_is ∙ ap (λ (b : Bool). ImageHeld (if b then host else found.owner)) may,
            stands_as found ((bytes_eq-Decides bytes_here (sector_bytes (Lease found))).0 w.0) known.found_is found.owner (inl (may, refl)),
          )
      by_case (inr w) = other known.names.0 known.names.1 known.names.2 (differ w.0) (may_take up host known.names.0.kind known.names.0.owner) refl w.1

  taken : (result : Result LeaseRecord Refusal) → TakesSector (domain_of t) slot answer_now faults result d e → TakenBy t slot result turn → StepsIn (Taking slot found) t host up faults turn d e
  taken (Ok new) takes by =
      let is = lease_is new takes.0 in
      let lease = by.0 in
      moved_after new is takes.1 (after_more t (Taking slot found) (Opening lease by.1) host up faults turn d e by.2 (record {
        fresh = fresh_now new is takes.1;
        held = record {
          domain = by.3.domain;
          lease_is = subst (λ (r : LeaseRecord). IsTaskLease t host r) (sym by.3.lease_is) is;
          stands = subst (λ (k : ℕ). Stands e (domain_of t) k (sector_bytes (Lease (record_of lease)))) (sym by.3.slot_is)
              (subst (λ (r : LeaseRecord). Stands e (domain_of t) slot (sector_bytes (Lease r))) (sym by.3.lease_is) (stands_now new is takes.1));
          only = (
            exchanged slot (sector_bytes (Lease new)) takes.1.0,
            takes.1.2.here,
            area_after slot (sector_bytes (Lease new)) takes.1.0 (subst (λ (f : File). IsArea f) (file_is new is takes.1) known.area),
            subst (λ (k : ℕ). IsOnlyAt (image_of t) k (exchanged slot (sector_bytes (Lease new)) takes.1.0)) (sym by.3.slot_is)
                (only_after (image_of t) slot (sector_bytes (Lease new)) takes.1.0 (subst (λ (f : File). IsOnlyAt (image_of t) slot f) (file_is new is takes.1) known.only)),
          );
        };
        writing = writing_begun t t.begun by.1 host e ((fresh_now new is takes.1).tasks) by.4;
      }))
  taken (Err refusal) (inl takes) by =
      let owned = in_use refusal takes.0 in
      same_after takes.1 (after_ended t (Taking slot found) host up faults turn (ImageHeld owned.0) d e (by ∙ ap (λ (r : Refusal). Ended tt r) owned.1) owned.2)
  taken (Err refusal) (inr takes) by = fault takes.1
    where
      ended : After turn (Taking slot found) t host up faults d e
      ended = after_ended t (Taking slot found) host up faults turn (DiskFault faults) d e (by ∙ ap (λ (r : Refusal). Ended tt r) takes.0) refl

      fault : IsSame d e ⊎ ((new : LeaseRecord) × (answer_now ≡ Ok new) × IsMoved d (domain_of t) slot (Lease new) e) → StepsIn (Taking slot found) t host up faults turn d e
      fault (inl same) = same_after same ended
      fault (inr w) = moved_after w.0 (lease_is w.0 w.1) w.2 ended

  pub take_step : (result : Result LeaseRecord Refusal)
      → ByOneExchange host (domain_of t) slot (Lease found) (next_sector new_now (Lease found)) (image_answer_to up host ForTask (image_of t) (Lease found) faults) result d e → TakenBy t slot result turn
      → StepsIn (Taking slot found) t host up faults turn d e
  take_step result by follows = taken result (leaves host slot faults (domain_of t) (image_refusal up host (image_of t)) (Lease found) new_now result bytes_here d e by stood) follows
