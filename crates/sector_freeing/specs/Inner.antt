-- The steps of a freeing as the calls below make them: what was answered, and the turn that follows.
use Rattle.std.specs.Prelude.{◌≡◌, ℕ, ◌+◌, ◌*◌, ◌/◌, ◌<◌, ◌≤◌, List, length, Option, Some, None, Result, Ok, Err}
use Rattle.sd_names.specs.Turn.{MatchTurn}
use Rattle.sd_names.specs.declared.id.Id.{Id}
use Rattle.sd_names.specs.declared.place.Dir.TheVariants as dir
use Rattle.sd_names.specs.declared.place.Name.{Name}
use Rattle.sd_names.specs.declared.refusal.Refusal.{Refusal}
use Rattle.sd_names.specs.declared.turn.Turn.TheVariants.{Ended}
use Rattle.shared_disk.specs.Calls.{ReadAt, Syncs}
use Rattle.shared_disk.specs.Content.{Content}
use Rattle.shared_disk.specs.NameCalls.{NextName, place_in}
use Rattle.shared_disk.specs.Step.{GoesOn, TurnFollows}
use Rattle.shared_disk.specs.declared.disk.DiskAnswer.{DiskAnswer}
use Rattle.shared_disk.specs.declared.disk.DiskAnswer.TheVariants.{NoFile}
use Rattle.lease_area.specs.Hold.{ByOneExchange, GivesUp, Stands, giving_answer, leases_of}
use Rattle.lease_area.specs.Move.{freed}
use Rattle.lease_area.specs.declared.sector.LeaseRecord.{LeaseRecord}
use Rattle.lease_area.specs.declared.sector.Sector.TheVariants.{Lease}
use Rattle.sector_freeing.specs.Finding.{least_task}
use Rattle.sector_freeing.specs.Freeing.{FreeTurn, IsAt}
use Rattle.sector_freeing.specs.declared.freeing.Stage.TheVariants.{Looking, Listing, Syncing, Freeing}

-- ---- sectors are read

-- the sectors from this one on come next, unless it is behind the last one
abbrev pub LooksFrom : Id → ℕ → FreeTurn → Type 0
LooksFrom sd from turn = MatchTurn turn (λ next. IsAt sd (Looking from) next × (from < 1024)) (λ _. 1024 ≤ from) (λ _ _. ⊥)

abbrev pub FoundBy : Id → ℕ → Option (ℕ × LeaseRecord) → FreeTurn → Type 0
FoundBy sd from (Some a) turn = GoesOn (IsAt sd (Listing a.0 a.1 None)) turn
FoundBy sd from None turn = LooksFrom sd (128 * (from / 128 + 1)) turn

abbrev pub base_of : ℕ → ℕ
base_of from = 128 * (from / 128)

abbrev pub ReadsOn : Id → ℕ → ℕ → ℕ → FreeTurn → Content → Content → Type 0
ReadsOn sd from host faults turn d e =
    (answer : Result ℕ DiskAnswer) × (before : List ℕ) × (room : List ℕ) × (length before ≡ 65536) × ReadAt d host (leases_of sd) (512 * base_of from / 512) before room answer e
    × TurnFollows answer faults turn (λ count. FoundBy sd from (least_task from (base_of from) room (count / 512)) turn)

-- ---- files are synced

abbrev pub MetNext : Id → ℕ → LeaseRecord → Option Name → FreeTurn → Type 0
MetNext sd slot r (Some n) turn = GoesOn (IsAt sd (Syncing slot r n)) turn
MetNext sd slot r None turn = GoesOn (IsAt sd (Freeing slot r)) turn

abbrev pub ListedBy : Id → ℕ → LeaseRecord → ℕ → Result (Option Name) DiskAnswer → FreeTurn → Type 0
ListedBy sd slot r faults (Err NoFile) turn = GoesOn (IsAt sd (Freeing slot r)) turn
ListedBy sd slot r faults answer turn = TurnFollows answer faults turn (λ next. MetNext sd slot r next turn)

abbrev pub ListsName : Id → ℕ → LeaseRecord → Option Name → ℕ → FreeTurn → Content → Content → Type 0
ListsName sd slot r after faults turn d e =
    (answer : Result (Option Name) DiskAnswer) × NextName d (dir.Image sd r.image) after answer e × ListedBy sd slot r faults answer turn

abbrev pub SyncedBy : Id → ℕ → LeaseRecord → Name → ℕ → Result (Unit {0}) DiskAnswer → FreeTurn → Type 0
SyncedBy sd slot r n faults (Err NoFile) turn = GoesOn (IsAt sd (Listing slot r (Some n))) turn
SyncedBy sd slot r n faults answer turn = TurnFollows answer faults turn (λ _. GoesOn (IsAt sd (Listing slot r (Some n))) turn)

abbrev pub SyncsOne : Id → ℕ → LeaseRecord → Name → ℕ → ℕ → FreeTurn → Content → Content → Type 0
SyncsOne sd slot r n host faults turn d e =
    (answer : Result (Unit {0}) DiskAnswer) × Syncs d host (place_in (dir.Image sd r.image) n) answer e × SyncedBy sd slot r n faults answer turn

-- ---- the sector is freed

abbrev pub FreedBy : Id → ℕ → Result (Unit {0}) Refusal → FreeTurn → Type 0
FreedBy sd slot (Ok _) turn = LooksFrom sd (slot + 1) turn
FreedBy sd slot (Err refusal) turn = turn ≡ Ended tt refusal

abbrev pub FreesOne : Id → ℕ → LeaseRecord → ℕ → FreeTurn → Content → Content → Type 0
FreesOne sd slot r faults turn d e =
    (bytes : List ℕ) → Stands d sd slot bytes → (result : Result (Unit {0}) Refusal) × GivesUp sd slot r (Lease (freed r)) faults bytes result d e × FreedBy sd slot result turn

-- the same whatever stands in the sector: by one exchange of the lease that was read
abbrev pub Frees : Id → ℕ → LeaseRecord → ℕ → ℕ → FreeTurn → Content → Content → Type 0
Frees sd slot r host faults turn d e =
    (result : Result (Unit {0}) Refusal) × ByOneExchange host sd slot (Lease r) (Lease (freed r)) (giving_answer faults) result d e × FreedBy sd slot result turn
