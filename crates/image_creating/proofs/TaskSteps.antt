-- What the steps leave that ask for the folder, read the sectors, and write the open task's text.
use Rattle.std.proofs.Common.{◌≡◌, ◌⊎◌, ℕ, ◌+◌, false, List, length, Option, Some, None, Result, Ok, Err, refl, sym, ap, ◌∙◌, subst, inl, inr, arith}
use Rattle.sd_names.specs.declared.id.Id.{Id}
use Rattle.sd_names.specs.declared.place.Dir.{Dir}
use Rattle.sd_names.specs.declared.place.Dir.TheVariants as dir
use Rattle.sd_names.specs.declared.place.Name.{Name}
use Rattle.sd_names.specs.declared.place.Place.{Place}
use Rattle.sd_names.specs.declared.refusal.Refusal.{Refusal}
use Rattle.sd_names.specs.declared.refusal.Refusal.TheVariants.{DiskFault, ImageExists, LeaseAreaFull}
use Rattle.sd_names.specs.declared.turn.Turn.{Turn}
use Rattle.sd_names.specs.declared.turn.Turn.TheVariants.{More, Done, Ended}
use Rattle.shared_disk.specs.Calls.{IsSame}
use Rattle.shared_disk.specs.Content.{Content}
use Rattle.shared_disk.specs.Refusal.{refusal_of}
use Rattle.shared_disk.specs.WellFormed.{IsWellFormed}
use Rattle.shared_disk.specs.declared.disk.DiskAnswer.{DiskAnswer}
use Rattle.shared_disk.specs.declared.disk.DiskAnswer.TheVariants.{NoFile, Exists, OutOfFile, NotEmpty, Failed}
use Rattle.shared_disk.specs.NameCalls.{NextName}
use Rattle.shared_disk.proofs.AtPlace.{no_file}
use Rattle.lease_area.specs.Hold.{leases_of}
use Rattle.lease_area.specs.Scan.{Looks, ScanSteps, scan_domain, scan_image, seen_by, steps_made}
use Rattle.lease_area.specs.declared.scan.Scan.{Scan}
use Rattle.lease_area.specs.declared.scanned.Scanned.{Scanned}
use Rattle.lease_area.specs.declared.sector.LeaseRecord.{LeaseRecord}
use Rattle.whole_file.specs.Replace.{IsReady as IsReplaceReady}
use Rattle.whole_file.specs.declared.replace.Stage.{Stage as ReplaceStage}
use Rattle.task_store.specs.declared.task.Task.{Task}
use Rattle.task_store.specs.TaskText.{text_of}
use Rattle.task_files.specs.TaskFile.{HasTask}
use Rattle.task_files.specs.Write.{WriteSteps, file_of, volatile_of}
use Rattle.task_files.specs.declared.write.TaskWrite.{TaskWrite}
use Rattle.image_making.specs.NewImage.{folder_of}
use Rattle.image_making.specs.declared.making.ImageMaking.{ImageMaking}
use Rattle.image_making.specs.declared.making.NewImage.{NewImage}
use Rattle.image_making.proofs.Parts.{none_in_new}
use Rattle.sd_names.specs.declared.place.Name.TheVariants as name
use Rattle.image_creating.specs.Calls.{AskedBy, IsOpened, IsScanBegun, IsScanned, IsWriteBegun, SeenBy, WriteTurn}
use Rattle.image_creating.specs.Creating.{CreateTurn}
use Rattle.image_creating.specs.ImageTask.{HasNone, IsOpen, domain_of, image_of, master_of, place_of}
use Rattle.image_creating.specs.Inner.{IsSameText, IsScanOn}
use Rattle.image_creating.specs.Knowing.{HasTasks, IsFresh, IsNew, IsOpening, IsPlaced, IsReadSince, IsScanning, IsWriting}
use Rattle.image_creating.specs.Standing.{IsAbsent}
use Rattle.image_creating.specs.Steps.{After, StepsIn}
use Rattle.image_creating.specs.declared.creating.Stage.TheVariants.{Asking, Scanning, Opening, Taking}
use Rattle.image_creating.specs.declared.image_task.ImageTask.{ImageTask}
use Rattle.image_creating.proofs.Apart.{apart_same, apart_text, leases_not_new, leases_not_task}
use Rattle.image_creating.proofs.Reading.{none_empty, none_found, one_empty, one_found, read_more, read_none}
use Rattle.image_creating.proofs.Standing.{standing_on_each}
use Rattle.image_creating.proofs.Turns.{after_ended, after_more, folder_is}

-- what isn't changed is as it was
same_file : (q : Place) (d e : Content) → e ≡ d → e.file q ≡ d.file q
same_file q d e same = ap (λ (c : Content). c.file q) same

-- ---- the folder is asked for

fresh_same : (t : ImageTask) (x : NewImage) (m : ImageMaking) (d e : Content) → ((q : Dir) → e.dir q ≡ d.dir q) → IsFresh t x m d → IsFresh t x m e
fresh_same t x m d e dirs fresh = record {
  same = fresh.same;
  making = fresh.making;
  images = dirs (dir.Images x.says.domain) ∙ fresh.images;
  tasks = dirs (dir.Tasks (master_of t)) ∙ fresh.tasks;
}

module _ (t : ImageTask) (x : NewImage) (m : ImageMaking) (host faults : ℕ) (turn : CreateTurn) (d e : Content) (known : IsNew t x m d) where
  not_there : (s : Scan) → IsSame d e → d.dir (dir.Image (domain_of t) (image_of t)) ≡ false → IsScanBegun t s → IsScanning t x m s host e
  not_there s same none begun = record {
    fresh = subst (λ (c : Content). IsFresh t x m c) (sym same) known.fresh;
    none = ap (λ (c : Content). c.dir (folder_of x)) same ∙ ap (λ (q : Dir). d.dir q) (folder_is t x known.fresh.same) ∙ none;
    task = same_file (place_of t) d e same ∙ known.task;
    domain = begun.domain;
    image = begun.image;
    file = known.area.0;
    there = same_file (leases_of (domain_of t)) d e same ∙ known.area.1;
    area = known.area.2;
    read = subst (λ (n : ℕ). IsReadSince n host (domain_of t) (image_of t) (seen_by s) known.area.0) (sym begun.made)
        (subst (λ (z : Scanned). IsReadSince 0 host (domain_of t) (image_of t) z known.area.0) (sym begun.seen) (read_none host (domain_of t) (image_of t) known.area.0 d));
  }

  asked : IsSame d e → After turn t x host faults d e → StepsIn (Asking m) t x host faults turn d e
  asked same after = record { apart = apart_same t x host d e same; leaves = same; after = after }

  pub ask_step : (answer : Result (Option Name) DiskAnswer) → NextName d (dir.Image (domain_of t) (image_of t)) None answer e → AskedBy t m faults answer turn → StepsIn (Asking m) t x host faults turn d e
  ask_step (Ok next) call by = asked call.0 (after_ended t x host faults turn ImageExists d e by (inl (ap (λ (q : Dir). d.dir q) (folder_is t x known.fresh.same) ∙ call.1)))
  ask_step (Err NoFile) call by = asked call.0 (after_more t (Scanning m by.0) x host faults turn d e by.1 (not_there by.0 call.0 call.1 by.2))
  ask_step (Err Failed) call by = asked call (after_ended t x host faults turn (DiskFault faults) d e by refl)
  ask_step (Err Exists) call by = absurd call
  ask_step (Err OutOfFile) call by = absurd call
  ask_step (Err NotEmpty) call by = absurd call

-- ---- sectors are read

-- a write of a text of the task that has begun
pub writing_begun : (t : ImageTask) (text : Task) (w : TaskWrite) (host : ℕ) (d : Content) → HasTasks t d → IsWriteBegun t w → IsWriting t text w host d
writing_begun t text w host d tasks begun = record {
  file = begun.file;
  volatile = begun.volatile;
  write = record {
    folder = ap (λ (p : Place). d.dir p.dir) begun.file ∙ tasks;
    ready = subst (λ (s : ReplaceStage). IsReplaceReady s host (text_of text) (volatile_of w) d) (sym begun.stage) tt;
  };
}

module _ (t : ImageTask) (x : NewImage) (m : ImageMaking) (s : Scan) (host faults : ℕ) (turn : CreateTurn) (d e : Content) (known : IsScanning t x m s host d) where
  scanned : IsSame d e → After turn t x host faults d e → StepsIn (Scanning m s) t x host faults turn d e
  scanned same after = record { apart = apart_same t x host d e same; leaves = same; after = after }

  abbrev LooksNow : List ℕ → List ℕ → Scanned → Type 0
  LooksNow before room new = Looks (scan_domain s) (scan_image s) (steps_made s) host before room (seen_by s) new d

  read_on : (before room : List ℕ) (new : Scanned) → length before ≡ 65536 → LooksNow before room new → IsReadSince (steps_made s + 1) host (domain_of t) (image_of t) new known.file
  read_on before room new len looks =
      read_more (steps_made s) host (domain_of t) (image_of t) (seen_by s) new known.file d before room known.read known.there known.area len
      (subst (λ (i : Id). Looks (domain_of t) i (steps_made s) host before room (seen_by s) new d) known.image
      (subst (λ (q : Id). Looks q (scan_image s) (steps_made s) host before room (seen_by s) new d) known.domain looks))

  scan_next : (next : Scan) (before room : List ℕ) → length before ≡ 65536 → IsSame d e → LooksNow before room (seen_by next) → IsScanOn s (More next) → IsScanning t x m next host e
  scan_next next before room len same looks on = record {
    fresh = subst (λ (c : Content). IsFresh t x m c) (sym same) known.fresh;
    none = ap (λ (c : Content). c.dir (folder_of x)) same ∙ known.none;
    task = same_file (place_of t) d e same ∙ known.task;
    domain = on.sd ∙ known.domain;
    image = on.image ∙ known.image;
    file = known.file;
    there = same_file (leases_of (domain_of t)) d e same ∙ known.there;
    area = known.area;
    read = subst (λ (n : ℕ). IsReadSince n host (domain_of t) (image_of t) (seen_by next) known.file) (sym on.further) (read_on before room (seen_by next) len looks);
  }

  placed : (slot : ℕ) (w : TaskWrite) (seen : Scanned) → IsReadSince 8 host (domain_of t) (image_of t) seen known.file → seen.found ≡ None → seen.empty ≡ Some slot → IsSame d e → IsWriteBegun t w
      → IsOpening t x m slot w host e
  placed slot w seen read found empty same begun = subst (λ (c : Content). IsOpening t x m slot w host c) (sym same) (record {
    placed = record {
      fresh = known.fresh;
      none = known.none;
      unnamed = (known.file, known.there, known.area, none_found host (domain_of t) (image_of t) seen known.file read found);
      empty = (known.file, known.there, one_empty host (domain_of t) (image_of t) seen known.file read slot empty);
    };
    task = known.task;
    writing = writing_begun t t.begun w host d known.fresh.tasks begun;
  })

  seen_all : (seen : Scanned) (found : Option (ℕ × LeaseRecord)) (empty : Option ℕ) → seen.found ≡ found → seen.empty ≡ empty → IsReadSince 8 host (domain_of t) (image_of t) seen known.file → IsSame d e
      → SeenBy t m found empty turn → StepsIn (Scanning m s) t x host faults turn d e
  seen_all seen (Some a) empty found_is empty_is read same by =
      scanned same (after_ended t x host faults turn ImageExists d e by (inr (known.file, known.there, one_found host (domain_of t) (image_of t) seen known.file read a found_is)))
  seen_all seen None None found_is empty_is read same by =
      scanned same (after_ended t x host faults turn LeaseAreaFull d e by (known.file, known.there, none_empty host (domain_of t) (image_of t) seen known.file read empty_is))
  seen_all seen None (Some slot) found_is empty_is read same by =
      scanned same (after_more t (Opening m slot by.0) x host faults turn d e by.1 (placed slot by.0 seen read found_is empty_is same by.2))

  eighth : (n : ℕ) → n ≡ 7 → n + 1 ≡ 8
  eighth n is = omega (arith, is)

  pub scan_step : (step : Turn Scan Scanned (Unit {0})) (before room : List ℕ) → length before ≡ 65536 → ScanSteps s host faults before room step d e → IsScanOn s step → IsScanned t m step turn
      → StepsIn (Scanning m s) t x host faults turn d e
  scan_step (More next) before room len call on by = scanned call.0 (after_more t (Scanning m next) x host faults turn d e by (scan_next next before room len call.0 call.1 on))
  scan_step (Done seen) before room len call on by =
      seen_all seen seen.found seen.empty refl refl
      (subst (λ (n : ℕ). IsReadSince n host (domain_of t) (image_of t) seen known.file) (eighth (steps_made s) on) (read_on before room seen len call.1)) call.0 by
  scan_step (Ended u refusal) before room len call on by = ended call.1
    where
      ended : (refusal ≡ DiskFault faults) ⊎ ((refusal ≡ refusal_of NoFile faults) × (d.file (leases_of (scan_domain s)) ≡ None)) → StepsIn (Scanning m s) t x host faults turn d e
      ended (inl is) = scanned call.0 (after_ended t x host faults turn (DiskFault faults) d e (by ∙ ap (λ (r : Refusal). Ended tt r) is) refl)
      ended (inr w) = absurd (no_file known.file (d.file (leases_of (domain_of t))) (ap (λ (q : Id). d.file (leases_of q)) (sym known.domain) ∙ w.1) known.there)

-- ---- the open task's text is written

placed_same : (t : ImageTask) (x : NewImage) (m : ImageMaking) (slot : ℕ) (d e : Content) → ((q : Dir) → e.dir q ≡ d.dir q) → e.file (leases_of (domain_of t)) ≡ d.file (leases_of (domain_of t))
    → IsPlaced t x m slot d → IsPlaced t x m slot e
placed_same t x m slot d e dirs leases placed = record {
  fresh = fresh_same t x m d e dirs placed.fresh;
  none = dirs (folder_of x) ∙ placed.none;
  unnamed = (placed.unnamed.0, leases ∙ placed.unnamed.1, placed.unnamed.2, placed.unnamed.3);
  empty = (placed.empty.0, leases ∙ placed.empty.1, placed.empty.2);
}

-- the image is absent where it has no folder and no sector
pub absent : (t : ImageTask) (x : NewImage) (m : ImageMaking) (slot host : ℕ) (d : Content) → IsWellFormed d → IsPlaced t x m slot d → HasNone t d ⊎ IsOpen t d → IsAbsent t x d
absent t x m slot host d well placed task = record {
  folder = placed.none;
  text = none_in_new (folder_of x) (name.Meta x.volume) d well placed.none;
  sector = placed.unnamed;
  task = task;
}

module _ (t : ImageTask) (x : NewImage) (m : ImageMaking) (slot : ℕ) (w : TaskWrite) (host faults : ℕ) (turn : CreateTurn) (d e : Content) (well : IsWellFormed e) (known : IsOpening t x m slot w host d) where
  abbrev Writes : WriteTurn → Type 0
  Writes step = WriteSteps w host faults t.begun step d e

  still_placed : (step : WriteTurn) → Writes step → IsPlaced t x m slot e
  still_placed step writes =
      placed_same t x m slot d e writes.apart.dirs
      (writes.apart.files (leases_of (domain_of t)) (λ same. leases_not_task t (same ∙ known.writing.file)) (λ same. leases_not_new t (same ∙ known.writing.volatile))) known.placed

  opened : (step : WriteTurn) → Writes step → HasNone t e ⊎ IsOpen t e → After turn t x host faults d e → StepsIn (Opening m slot w) t x host faults turn d e
  opened step writes task after = record {
    apart = apart_text t x host d e (file_of w) (volatile_of w) known.writing.file known.writing.volatile writes.apart;
    leaves = standing_on_each t x host e (inl (absent t x m slot host e well (still_placed step writes) task));
    after = after;
  }

  none_yet : e.file (file_of w) ≡ d.file (file_of w) → HasNone t e
  none_yet same = ap (λ (p : Place). e.file p) (sym known.writing.file) ∙ same ∙ ap (λ (p : Place). d.file p) known.writing.file ∙ known.task

  open_now : HasTask (file_of w) (Some t.begun) e → IsOpen t e
  open_now has = subst (λ (p : Place). HasTask p (Some t.begun) e) known.writing.file has

  either : (step : WriteTurn) → Writes step → HasNone t e ⊎ IsOpen t e
  either step writes = by_case writes.file
    where
      by_case : (e.file (file_of w) ≡ d.file (file_of w)) ⊎ HasTask (file_of w) (Some t.begun) e → HasNone t e ⊎ IsOpen t e
      by_case (inl same) = inl (none_yet same)
      by_case (inr has) = inr (open_now has)

  pub open_step : (step : WriteTurn) → Writes step → IsSameText w step → IsOpened t m slot step turn → StepsIn (Opening m slot w) t x host faults turn d e
  open_step (More next) writes same by =
      opened (More next) writes (inl (none_yet writes.after.1)) (after_more t (Opening m slot next) x host faults turn d e by (record {
        placed = still_placed (More next) writes;
        task = none_yet writes.after.1;
        writing = record { file = same.target ∙ known.writing.file; volatile = same.volatile ∙ known.writing.volatile; write = writes.after.0 };
      }))
  open_step (Done u) writes same by =
      opened (Done u) writes (inr (open_now writes.after.0))
      (after_more t (Taking m slot) x host faults turn d e by (record { placed = still_placed (Done u) writes; task = open_now writes.after.0 }))
  open_step (Ended u refusal) writes same by =
      opened (Ended u refusal) writes (either (Ended u refusal) writes)
      (after_ended t x host faults turn (DiskFault faults) d e (by ∙ ap (λ (r : Refusal). Ended tt r) writes.after.0) refl)
