-- What each step leaves.
use Rattle.std.proofs.Common.{◌≡◌, ◌⊎◌, ℕ, ◌+◌, ◌-◌, ◌*◌, ◌/◌, ◌<◌, min, List, length, Option, Some, None, Result, Ok, Err, refl, sym, ◌∙◌, subst, inl, inr}
use Rattle.sd_names.specs.declared.id.Id.{Id}
use Rattle.sd_names.specs.declared.place.Dir.TheVariants as dir
use Rattle.sd_names.specs.declared.place.Name.{Name}
use Rattle.sd_names.specs.declared.refusal.Refusal.{Refusal}
use Rattle.sd_names.specs.declared.refusal.Refusal.TheVariants.{DiskFault}
use Rattle.shared_disk.specs.Calls.{IsSame, ReadAt, ReadsAs, Syncs, synced}
use Rattle.shared_disk.specs.Content.{Content, File}
use Rattle.shared_disk.specs.NameCalls.{NextName, place_in}
use Rattle.shared_disk.specs.Step.{TurnFollows}
use Rattle.shared_disk.specs.WellFormed.{IsWellFormed}
use Rattle.shared_disk.specs.declared.disk.DiskAnswer.{DiskAnswer}
use Rattle.shared_disk.specs.declared.disk.DiskAnswer.TheVariants.{NoFile, Exists, OutOfFile, NotEmpty, Failed}
use Rattle.shared_disk.proofs.AtPlace.{no_file, one_file}
use Rattle.lease_area.specs.Hold.{GivesUp, IsMoved, Stands, leases_of}
use Rattle.lease_area.specs.Move.{freed}
use Rattle.lease_area.specs.Sector.{sector_bytes}
use Rattle.lease_area.specs.declared.sector.LeaseRecord.{LeaseRecord}
use Rattle.lease_area.specs.declared.sector.Sector.TheVariants.{Lease}
use Rattle.sector_freeing.specs.Finding.{least_task}
use Rattle.sector_freeing.specs.Freeing.{FreeTurn}
use Rattle.sector_freeing.specs.Inner.{FoundBy, FreedBy, ListedBy, ListsName, ReadsOn, SyncedBy, SyncsOne, base_of}
use Rattle.sector_freeing.specs.Knowing.{AreSynced, HasNoneBelow, HasTask, KnowsIn}
use Rattle.sector_freeing.specs.Steps.{After, StepsIn}
use Rattle.sector_freeing.specs.declared.freeing.Stage.{Stage}
use Rattle.sector_freeing.specs.declared.freeing.Stage.TheVariants.{Looking, Listing, Syncing, Freeing}
use Rattle.sector_freeing.proofs.Files.{ids_put, leases_apart, next_left, none_above, none_there, one_gone, one_synced}
use Rattle.sector_freeing.proofs.Freed.{moved_none}
use Rattle.sector_freeing.proofs.Reading.{IsFoundIn, read_found}
use Rattle.sector_freeing.proofs.Turns.{after_fault, after_looks, after_more}

-- what is known stays so where nothing has changed
still : (s : Stage) (host : ℕ) (sd : Id) (d e : Content) → IsSame d e → KnowsIn s host sd d → KnowsIn s host sd e
still s host sd d e same known = subst (λ (c : Content). KnowsIn s host sd c) (sym same) known

-- ---- sectors are read

module _ (host from faults : ℕ) (sd : Id) (turn : FreeTurn) (d e : Content) (known : KnowsIn (Looking from) host sd d) (low : 0 < from) (high : from < 1024) where
  looked : IsSame d e → After host sd faults turn e → StepsIn (Looking from) host sd faults turn d e
  looked same after = record { changes = same; after = after }

  -- by what was found
  seen : (o : Option (ℕ × LeaseRecord)) → IsSame d e → IsFoundIn from known.1.file o → FoundBy sd from o turn → After host sd faults turn e
  seen None same none by =
      after_looks host sd (128 * (from / 128 + 1)) faults turn e by (still (Looking from) host sd d e same known).0
      (subst (λ (c : Content). HasNoneBelow sd (128 * (from / 128 + 1)) c) (sym same) (record { file = known.1.file; there = known.1.there; area = known.1.area; none = none }))
  seen (Some a) same least by =
      after_more host sd (Listing a.0 a.1 None) faults turn e by
      (still (Listing a.0 a.1 None) host sd d e same (
        known.0,
        (
          record {
            below = record { file = known.1.file; there = known.1.there; area = known.1.area; none = least.none };
            slot_is = least.slot_is;
            bytes = least.bytes;
            reads = least.reads;
            held = least.held;
          },
          λ n f there. inl tt,
        ),
      ))

  by_read : (count : ℕ) (before room : List ℕ) → length before ≡ 65536 → ReadAt d host (leases_of sd) (512 * base_of from / 512) before room (Ok count) e
      → FoundBy sd from (least_task from (base_of from) room (count / 512)) turn → StepsIn (Looking from) host sd faults turn d e
  by_read count before room len (same, f, there, count_is, reads) by =
      let one : f ≡ known.1.file = one_file f known.1.file (d.file (leases_of sd)) there known.1.there in
      looked same
      (seen (least_task from (base_of from) room (count / 512)) same
      (read_found host from count before room known.1.file low high known.1.area len (subst (λ (g : File). count ≡ min (length before) (512 * (g.size - 512 * base_of from / 512))) one count_is)
      (subst (λ (g : File). ReadsAs host g (512 * base_of from / 512) count before room) one reads) known.1.none) by)

  by_answer : (answer : Result ℕ DiskAnswer) (before room : List ℕ) → length before ≡ 65536 → ReadAt d host (leases_of sd) (512 * base_of from / 512) before room answer e
      → TurnFollows answer faults turn (λ count. FoundBy sd from (least_task from (base_of from) room (count / 512)) turn) → StepsIn (Looking from) host sd faults turn d e
  by_answer (Ok count) before room len read by = by_read count before room len read by
  by_answer (Err Failed) before room len same by = looked same (after_fault host sd faults turn (DiskFault faults) e by refl)
  by_answer (Err NoFile) before room len read by = absurd (no_file known.1.file (d.file (leases_of sd)) read.1 known.1.there)
  by_answer (Err Exists) before room len read by = absurd read
  by_answer (Err OutOfFile) before room len read by = absurd read
  by_answer (Err NotEmpty) before room len read by = absurd read

  pub look_step : ReadsOn sd from host faults turn d e → StepsIn (Looking from) host sd faults turn d e
  look_step is = by_answer is.0 is.1 is.2 is.3 is.4 is.5

-- ---- names are listed

module _ (host slot faults : ℕ) (sd : Id) (r : LeaseRecord) (after : Option Name) (turn : FreeTurn) (d e : Content) (well : IsWellFormed d) (known : KnowsIn (Listing slot r after) host sd d) where
  listed : IsSame d e → After host sd faults turn e → StepsIn (Listing slot r after) host sd faults turn d e
  listed same then = record { changes = same; after = then }

  all_synced : IsSame d e → AreSynced host sd r.image d → KnowsIn (Freeing slot r) host sd e
  all_synced same are = still (Freeing slot r) host sd d e same (known.0, (known.1.0, are))

  by_name : (answer : Result (Option Name) DiskAnswer) → NextName d (dir.Image sd r.image) after answer e → ListedBy sd slot r faults answer turn → StepsIn (Listing slot r after) host sd faults turn d e
  by_name (Ok None) call by = listed call.0 (after_more host sd (Freeing slot r) faults turn e by (all_synced call.0 (none_above host sd r.image after d known.1.1 call.2)))
  by_name (Ok (Some n)) call by =
      listed call.0
      (after_more host sd (Syncing slot r n) faults turn e by
      (still (Syncing slot r n) host sd d e call.0 (known.0, (known.1.0, next_left host sd r.image after n d known.0 known.1.1 call.2))))
  by_name (Err NoFile) call by = listed call.0 (after_more host sd (Freeing slot r) faults turn e by (all_synced call.0 (none_there host sd r.image d well call.1)))
  by_name (Err Failed) same by = listed same (after_fault host sd faults turn (DiskFault faults) e by refl)
  by_name (Err Exists) call by = absurd call
  by_name (Err OutOfFile) call by = absurd call
  by_name (Err NotEmpty) call by = absurd call

  pub list_step : ListsName sd slot r after faults turn d e → StepsIn (Listing slot r after) host sd faults turn d e
  list_step is = by_name is.0 is.1 is.2

-- ---- a file is synced

-- a sector that is held stays so where its leases file does
task_kept : (sd : Id) (slot : ℕ) (r : LeaseRecord) (d e : Content) → e.file (leases_of sd) ≡ d.file (leases_of sd) → HasTask sd slot r d → HasTask sd slot r e
task_kept sd slot r d e same is = record {
  below = record { file = is.below.file; there = same ∙ is.below.there; area = is.below.area; none = is.below.none };
  slot_is = is.slot_is;
  bytes = is.bytes;
  reads = is.reads;
  held = is.held;
}

module _ (host slot faults : ℕ) (sd : Id) (r : LeaseRecord) (n : Name) (turn : FreeTurn) (d e : Content) (known : KnowsIn (Syncing slot r n) host sd d) where
  by_sync : (answer : Result (Unit {0}) DiskAnswer) → Syncs d host (place_in (dir.Image sd r.image) n) answer e → SyncedBy sd slot r n faults answer turn → StepsIn (Syncing slot r n) host sd faults turn d e
  by_sync (Ok u) (f, there, put) by = record {
    changes = inr (f, there, put);
    after = after_more host sd (Listing slot r (Some n)) faults turn e by (
      ids_put sd d e (place_in (dir.Image sd r.image) n) f (synced host f) there put known.0,
      (
        task_kept sd slot r d e (put.others (leases_of sd) (λ same. leases_apart sd r.image sd n (sym same))) known.1.0,
        one_synced host sd r.image n f d e put known.1.1,
      ),
    );
  }
  by_sync (Err NoFile) call by = record {
    changes = inl call.0;
    after = after_more host sd (Listing slot r (Some n)) faults turn e by
        (still (Listing slot r (Some n)) host sd d e call.0 (known.0, (known.1.0, one_gone host sd r.image n d known.1.1 call.1)));
  }
  by_sync (Err Failed) same by = record { changes = inl same; after = after_fault host sd faults turn (DiskFault faults) e by refl }
  by_sync (Err Exists) call by = absurd call
  by_sync (Err OutOfFile) call by = absurd call
  by_sync (Err NotEmpty) call by = absurd call

  pub sync_step : SyncsOne sd slot r n host faults turn d e → StepsIn (Syncing slot r n) host sd faults turn d e
  sync_step is = by_sync is.0 is.1 is.2

-- ---- the sector is freed

-- the sector stands as it was read
pub task_stands : (sd : Id) (slot : ℕ) (r : LeaseRecord) (d : Content) → HasTask sd slot r d → Stands d sd slot (sector_bytes (Lease r))
task_stands sd slot r d is = record {
  file = is.below.file;
  there = is.below.there;
  within = subst (λ (n : ℕ). slot < n) (sym is.below.area.size) is.slot_is.high;
  settled = is.below.area.settled;
  bytes_are = is.bytes;
}

module _ (host slot faults : ℕ) (sd : Id) (r : LeaseRecord) (turn : FreeTurn) (d e : Content) (known : KnowsIn (Freeing slot r) host sd d) where
  abbrev Moved : Type 0
  Moved = IsMoved d sd slot (Lease (freed r)) e

  moved_synced : Moved → AreSynced host sd r.image e
  moved_synced moved n f there = known.1.1 n f (sym (moved.2.others (place_in (dir.Image sd r.image) n) (leases_apart sd r.image sd n)) ∙ there)

  moved_so : Moved → After host sd faults turn e → StepsIn (Freeing slot r) host sd faults turn d e
  moved_so moved then = record { changes = inr (moved, moved_synced moved); after = then }

  pub free_step : (result : Result (Unit {0}) Refusal) → GivesUp sd slot r (Lease (freed r)) faults (sector_bytes (Lease r)) result d e → FreedBy sd slot result turn → StepsIn (Freeing slot r) host sd faults turn d e
  free_step (Ok u) (same, moved) by =
      moved_so moved
      (after_looks host sd (slot + 1) faults turn e by (ids_put sd d e (leases_of sd) moved.0 _ moved.1 moved.2 known.0) (moved_none sd slot r d e known.1.0.below moved))
  free_step (Err refusal) (inl gives) by = absurd (gives.0 refl)
  free_step (Err refusal) (inr gives) by = fault gives.1
    where
      ended : After host sd faults turn e
      ended = after_fault host sd faults turn refusal e by gives.0

      fault : IsSame d e ⊎ ((sector_bytes (Lease r) ≡ sector_bytes (Lease r)) × Moved) → StepsIn (Freeing slot r) host sd faults turn d e
      fault (inl same) = record { changes = inl same; after = ended }
      fault (inr w) = moved_so w.1 ended
