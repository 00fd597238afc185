-- What each step leaves.
use Rattle.std.proofs.Common.{◌≡◌, ◌⊎◌, ℕ, ◌+◌, ◌-◌, ◌*◌, ◌<◌, ◌≤◌, List, length, Option, Some, None, Result, Ok, Err, refl, sym, ap, ◌∙◌, subst, inl, inr, arith}
use Rattle.sd_names.specs.declared.id.Id.{Id}
use Rattle.sd_names.specs.declared.refusal.Refusal.{Refusal}
use Rattle.sd_names.specs.declared.refusal.Refusal.TheVariants.{DiskFault}
use Rattle.sd_names.specs.declared.turn.Turn.{Turn}
use Rattle.sd_names.specs.declared.turn.Turn.TheVariants.{More, Done, Ended}
use Rattle.shared_disk.specs.Calls.{IsSame}
use Rattle.shared_disk.specs.Content.{Content}
use Rattle.shared_disk.specs.Refusal.{refusal_of}
use Rattle.shared_disk.specs.declared.disk.DiskAnswer.TheVariants.{NoFile}
use Rattle.shared_disk.proofs.AtPlace.{no_file}
use Rattle.lease_area.specs.Hold.{GivesUp, IsMoved, leases_of}
use Rattle.lease_area.specs.Scan.{Looks, ScanSteps, scan_domain, scan_image, seen_by, steps_made}
use Rattle.lease_area.specs.Sector.{sector_bytes}
use Rattle.lease_area.specs.declared.scan.Scan.{Scan}
use Rattle.lease_area.specs.declared.scanned.Scanned.{Scanned}
use Rattle.lease_area.specs.declared.sector.Kind.{Kind}
use Rattle.lease_area.specs.declared.sector.Kind.TheVariants.{Free, Guest, Task}
use Rattle.lease_area.specs.declared.sector.LeaseRecord.{LeaseRecord}
use Rattle.lease_area.specs.declared.sector.Sector.TheVariants.{Empty, Lease}
use Rattle.image_removing.specs.Removing.{IsBegun as IsRemovalBegun, RemovalTurn, own_folder, removed_folder}
use Rattle.image_removing.specs.Steps.{HaveIds, IsGone, Knows as KnowsRemoval, KnowsIn, Removal}
use Rattle.image_removing.specs.declared.removing.ImageRemoving.{ImageRemoving}
use Rattle.image_removing.specs.declared.removing.Stage.{Stage as RemovalStage}
use Rattle.sd_names.specs.declared.place.Dir.TheVariants as dir
use Rattle.image_clearing.specs.Clearing.{ClearTurn, IsBegun}
use Rattle.image_clearing.specs.Inner.{EmptiedBy, FoundAs, IsRemovedBy, IsSameRemoval, IsScanOn, IsScanned, SeenBy}
use Rattle.image_clearing.specs.Knowing.{IsEmptying, IsFound, IsHeld, IsRemoving, IsScanning, IsTaskSector, Knows, KnowsImage}
use Rattle.image_clearing.specs.Standing.{IsCleared, IsUnderSector}
use Rattle.image_clearing.specs.Steps.{After, StepsIn}
use Rattle.image_clearing.specs.declared.clearing.ImageClearing.{ImageClearing}
use Rattle.image_clearing.specs.declared.clearing.Stage.TheVariants.{Scanning, Removing, Emptying}
use Rattle.image_clearing.proofs.Apart.{apart_moved, apart_removal, apart_same, leases_at_removal}
use Rattle.image_clearing.proofs.Reading.{read_on}
use Rattle.image_clearing.proofs.Sectors.{held_same, left_on_each, moved_stands}
use Rattle.image_clearing.proofs.Turns.{after_done, after_fault, after_more, known_at}

-- ---- sectors are read

-- a removal of the image that has begun
removal_begun : (sd image : Id) (m : ImageRemoving) (d : Content) → IsRemovalBegun sd image m → HaveIds (dir.Image sd image) (dir.Removed sd image) d → KnowsRemoval m d
removal_begun sd image m d begun ids =
    subst (λ (z : RemovalStage). KnowsIn z (own_folder m) (removed_folder m) d) (sym begun.stage) (
      subst (λ (a : Id). HaveIds (dir.Image a m.image) (dir.Removed a m.image) d) (sym begun.domain)
          (subst (λ (i : Id). HaveIds (dir.Image sd i) (dir.Removed sd i) d) (sym begun.image_is) ids),
      (λ n shows. tt, tt),
    )

module _ (sd image : Id) (s : Scan) (host faults : ℕ) (turn : ClearTurn) (d e : Content) (known : IsScanning sd image s d) where
  scanned : IsSame d e → After turn (Scanning s) sd image faults d e → StepsIn (Scanning s) sd image faults turn d e
  scanned same after = record { apart = apart_same sd image d e same; changes = same; leaves = tt; after = after }

  abbrev LooksNow : List ℕ → List ℕ → Scanned → Type 0
  LooksNow before room new = Looks (scan_domain s) (scan_image s) (steps_made s) host before room (seen_by s) new d

  now_found : (before room : List ℕ) (new : Scanned) → steps_made s < 8 → length before ≡ 65536 → LooksNow before room new → IsFound image (128 * (steps_made s + 1)) new.found known.file
  now_found before room new below len looks =
      read_on host (steps_made s) sd image before room (seen_by s) new known.file d below len known.there known.sectors
      (subst (λ (i : Id). Looks sd i (steps_made s) host before room (seen_by s) new d) known.image_is
      (subst (λ (q : Id). Looks q (scan_image s) (steps_made s) host before room (seen_by s) new d) known.domain looks)) known.found

  next_knows : (next : Scan) (before room : List ℕ) → length before ≡ 65536 → LooksNow before room (seen_by next) → IsScanOn s (More next) → IsScanning sd image next d
  next_knows next before room len looks on = record {
    domain = on.0.sd ∙ known.domain;
    image_is = on.0.image ∙ known.image_is;
    ids = known.ids;
    file = known.file;
    there = known.there;
    sectors = known.sectors;
    few = few_now (steps_made s) (steps_made next) (left_over (steps_made s) (steps_made next) on.1) on.0.further;
    found = subst (λ (n : ℕ). IsFound image (128 * n) (seen_by next).found known.file) (sym on.0.further)
        (now_found before room (seen_by next) (left_over (steps_made s) (steps_made next) on.1) len looks);
  }
    where
      few_now : (n m : ℕ) → n < 8 → m ≡ n + 1 → 128 * m ≤ 1024
      few_now n m below more = omega (arith, below, more)

      left_over : (n m : ℕ) → 8 - m < 8 - n → n < 8
      left_over n m less = omega (arith, less)

  -- the image's sector was found
  held_now : (slot : ℕ) (r : LeaseRecord) → IsTaskSector image slot r known.file → IsHeld sd image slot r d
  held_now slot r is = record {
    stands = record {
      file = known.file;
      there = known.there;
      within = subst (λ (n : ℕ). slot < n) (sym known.sectors.area.size) is.slot.high;
      settled = known.sectors.area.settled;
      bytes_are = is.bytes;
    };
    slot_is = is.slot;
    reads = is.reads;
    image_is = is.image_is;
    held = is.held;
  }

  found_now : (slot : ℕ) (r : LeaseRecord) (kind : Kind) → r.kind ≡ kind → kind ≡ Task → IsSame d e → IsTaskSector image slot r known.file → FoundAs kind sd image slot r turn
      → After turn (Scanning s) sd image faults d e
  found_now slot r Task kind_is held same is by = after_more sd image (Scanning s) (Removing slot r by.0) faults turn d e by.1 (subst (λ (c : Content). IsRemoving sd image slot r by.0 c) (sym same) (record {
    domain = by.2.domain;
    image_is = by.2.image_is;
    sector = held_now slot r is;
    removal = removal_begun sd image by.0 d by.2 known.ids;
  }))
  found_now slot r Free kind_is held same is by = absurd (free_task held)
    where
      free_task : Free ≡ Task → ⊥
      free_task x = cc
  found_now slot r Guest kind_is held same is by = absurd (guest_task held)
    where
      guest_task : Guest ≡ Task → ⊥
      guest_task x = cc

  seen_all : (o : Option (ℕ × LeaseRecord)) → IsFound image 1024 o known.file → IsSame d e → SeenBy sd image o turn → After turn (Scanning s) sd image faults d e
  seen_all None none same by = after_done sd image (Scanning s) faults turn d e by
      (known.file, ap (λ (c : Content). c.file (leases_of sd)) same ∙ known.there, known.sectors.area, λ k slot names. none k slot.low slot.high names)
  seen_all (Some a) is same by = found_now a.0 a.1 a.1.kind refl is.held same is by

  eighth : (n : ℕ) → n ≡ 7 → 128 * (n + 1) ≡ 1024
  eighth n is = omega (arith, is)

  seven : (n : ℕ) → n ≡ 7 → n < 8
  seven n is = omega (arith, is)

  pub scan_step : (step : Turn Scan Scanned (Unit {0})) (before room : List ℕ) → length before ≡ 65536 → ScanSteps s host faults before room step d e → IsScanOn s step → IsScanned sd image step turn
      → StepsIn (Scanning s) sd image faults turn d e
  scan_step (More next) before room len call on by =
      scanned call.0 (after_more sd image (Scanning s) (Scanning next) faults turn d e by
      (subst (λ (c : Content). IsScanning sd image next c) (sym call.0) (next_knows next before room len call.1 on)))
  scan_step (Done seen) before room len call on by =
      scanned call.0 (seen_all seen.found
      (subst (λ (n : ℕ). IsFound image n seen.found known.file) (eighth (steps_made s) on) (now_found before room seen (seven (steps_made s) on) len call.1)) call.0 by)
  scan_step (Ended u refusal) before room len call on by = ended call.1
    where
      ended : (refusal ≡ DiskFault faults) ⊎ ((refusal ≡ refusal_of NoFile faults) × (d.file (leases_of (scan_domain s)) ≡ None)) → StepsIn (Scanning s) sd image faults turn d e
      ended (inl is) = scanned call.0 (after_fault sd image (Scanning s) faults turn refusal d e by is)
      ended (inr w) = absurd (no_file known.file (d.file (leases_of sd)) (ap (λ (q : Id). d.file (leases_of q)) (sym known.domain) ∙ w.1) known.there)

-- ---- files go

module _ (sd image : Id) (slot : ℕ) (r : LeaseRecord) (m : ImageRemoving) (faults : ℕ) (turn : ClearTurn) (d e : Content) (known : IsRemoving sd image slot r m d) where
  held_by : (step : RemovalTurn) → Removal m faults step d e → IsHeld sd image slot r e
  held_by step leaves = held_same sd image slot r d e (leases_at_removal sd m faults step d e leaves) known.sector

  removed_so : (step : RemovalTurn) → Removal m faults step d e → After turn (Removing slot r m) sd image faults d e → StepsIn (Removing slot r m) sd image faults turn d e
  removed_so step leaves after = record {
    apart = apart_removal sd image m faults step d e known.domain known.image_is leaves;
    changes = leases_at_removal sd m faults step d e leaves;
    leaves = left_on_each sd image slot r e (inl (held_by step leaves).stands);
    after = after;
  }

  gone_now : IsGone m.sd m.image e → IsGone sd image e
  gone_now gone = subst (λ (a : Id). IsGone a image e) known.domain (subst (λ (i : Id). IsGone m.sd i e) known.image_is gone)

  pub remove_step : (step : RemovalTurn) → Removal m faults step d e → IsSameRemoval m step → IsRemovedBy sd image slot r step turn → StepsIn (Removing slot r m) sd image faults turn d e
  remove_step (More next) leaves same by =
      removed_so (More next) leaves (after_more sd image (Removing slot r m) (Removing slot r next) faults turn d e by (record {
        domain = same.0 ∙ known.domain;
        image_is = same.1 ∙ known.image_is;
        sector = held_by (More next) leaves;
        removal = leaves.after known.removal;
      }))
  remove_step (Done u) leaves same by =
      removed_so (Done u) leaves (after_more sd image (Removing slot r m) (Emptying slot r) faults turn d e by
      (record { sector = held_by (Done u) leaves; gone = gone_now (leaves.after known.removal) }))
  remove_step (Ended u refusal) leaves same by =
      removed_so (Ended u refusal) leaves (after_fault sd image (Removing slot r m) faults turn refusal d e by (leaves.after known.removal))

-- ---- the sector is emptied

module _ (sd image : Id) (slot : ℕ) (r : LeaseRecord) (faults : ℕ) (turn : ClearTurn) (d e : Content) (known : IsEmptying sd image slot r d) where
  abbrev Emptied : Type 0
  Emptied = IsMoved d sd slot Empty e

  emptied_stands : Emptied → IsCleared sd image slot e
  emptied_stands moved = record {
    gone = record { own = moved.2.dirs _ ∙ known.gone.own; removed = moved.2.dirs _ ∙ known.gone.removed };
    empty = moved_stands d e sd slot (sector_bytes (Lease r)) Empty known.sector.stands moved;
  }

  emptied_so : Emptied → After turn (Emptying slot r) sd image faults d e → StepsIn (Emptying slot r) sd image faults turn d e
  emptied_so moved after = record {
    apart = apart_moved sd image slot Empty d e moved;
    changes = inr moved;
    leaves = left_on_each sd image slot r e (inr (emptied_stands moved));
    after = after;
  }

  kept_so : IsSame d e → After turn (Emptying slot r) sd image faults d e → StepsIn (Emptying slot r) sd image faults turn d e
  kept_so same after = record {
    apart = apart_same sd image d e same;
    changes = inl same;
    leaves = left_on_each sd image slot r e (inl (subst (λ (c : Content). IsUnderSector sd slot r c) (sym same) known.sector.stands));
    after = after;
  }

  pub empty_step : (result : Result (Unit {0}) Refusal) → GivesUp sd slot r Empty faults (sector_bytes (Lease r)) result d e → EmptiedBy result turn → StepsIn (Emptying slot r) sd image faults turn d e
  empty_step (Ok u) gives by = emptied_so gives.1 (after_done sd image (Emptying slot r) faults turn d e by (gives.1, emptied_stands gives.1))
  empty_step (Err refusal) (inl gives) by = absurd (gives.0 refl)
  empty_step (Err refusal) (inr gives) by = fault gives.1
    where
      ended : After turn (Emptying slot r) sd image faults d e
      ended = after_fault sd image (Emptying slot r) faults turn refusal d e by gives.0

      fault : IsSame d e ⊎ ((sector_bytes (Lease r) ≡ sector_bytes (Lease r)) × IsMoved d sd slot Empty e) → StepsIn (Emptying slot r) sd image faults turn d e
      fault (inl same) = kept_so same ended
      fault (inr w) = emptied_so w.1 ended

-- ---- the begin

none_made : (n : ℕ) → n ≡ 0 → 128 * n ≤ 1024
none_made n is = omega (arith, is)

pub begun_knows : (sd image : Id) (c : ImageClearing) (d : Content) → IsBegun sd image c → KnowsImage sd image d → Knows c d
begun_knows sd image c d (s, at, begun) known = known_at sd image (Scanning s) c d at (record {
  domain = begun.domain;
  image_is = begun.image_is;
  ids = known.ids;
  file = known.file;
  there = known.there;
  sectors = known.sectors;
  few = none_made (steps_made s) begun.made;
  found = subst (λ (n : ℕ). IsFound image (128 * n) (seen_by s).found known.file) (sym begun.made)
      (subst (λ (z : Scanned). IsFound image (128 * 0) z.found known.file) (sym begun.seen) (λ k some below names. omega (arith, some, below)));
})
