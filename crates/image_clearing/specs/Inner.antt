-- The steps of a clearing as the work below them makes them: what that work did, and the turn that follows.
use Rattle.std.specs.Prelude.{◌≡◌, ◌<◌, ℕ, List, length, Option, Some, None, Result, Ok, Err}
use Rattle.sd_names.specs.Turn.{MatchTurn}
use Rattle.sd_names.specs.declared.id.Id.{Id}
use Rattle.sd_names.specs.declared.refusal.Refusal.{Refusal}
use Rattle.sd_names.specs.declared.refusal.Refusal.TheVariants.{ImageHeld}
use Rattle.sd_names.specs.declared.turn.Turn.{Turn}
use Rattle.sd_names.specs.declared.turn.Turn.TheVariants.{More, Done, Ended}
use Rattle.shared_disk.specs.Content.{Content}
use Rattle.shared_disk.specs.Refusal.{IsRisen}
use Rattle.shared_disk.specs.Step.{GoesOn}
use Rattle.lease_area.specs.Hold.{GivesUp, Stands}
use Rattle.lease_area.specs.Scan.{IsNext, ScanSteps, scan_left, steps_made}
use Rattle.lease_area.specs.declared.scan.Scan.{Scan}
use Rattle.lease_area.specs.declared.scanned.Scanned.{Scanned}
use Rattle.lease_area.specs.declared.sector.Kind.{Kind}
use Rattle.lease_area.specs.declared.sector.Kind.TheVariants.{Task}
use Rattle.lease_area.specs.declared.sector.LeaseRecord.{LeaseRecord}
use Rattle.lease_area.specs.declared.sector.Sector.TheVariants.{Empty}
use Rattle.image_removing.specs.Removing.{IsBegun as IsRemovalBegun, RemovalTurn}
use Rattle.image_removing.specs.Steps.{Removal}
use Rattle.image_removing.specs.declared.removing.ImageRemoving.{ImageRemoving}
use Rattle.image_clearing.specs.Clearing.{ClearTurn, IsAt}
use Rattle.image_clearing.specs.declared.clearing.Stage.TheVariants.{Scanning, Removing, Emptying}

-- no fault was counted, and none is told
abbrev pub IsUncounted : ℕ → ℕ → ClearTurn → Type 0
IsUncounted before after turn = MatchTurn turn (λ _. Unit {0}) (λ _. Unit {0}) (λ _ refusal. IsRisen before after refusal)

-- ---- sectors are read

-- a sector that names the image: what it is held for decides
abbrev pub FoundAs : Kind → Id → Id → ℕ → LeaseRecord → ClearTurn → Type 0
FoundAs Task sd image slot r turn = (m : ImageRemoving) × GoesOn (IsAt sd image (Removing slot r m)) turn × IsRemovalBegun sd image m
FoundAs _ sd image slot r turn = turn ≡ Ended tt (ImageHeld r.owner)

abbrev pub FoundBy : Id → Id → ℕ → LeaseRecord → ClearTurn → Type 0
FoundBy sd image slot r turn = FoundAs r.kind sd image slot r turn

-- what was seen: a sector that names the image, or none
abbrev pub SeenBy : Id → Id → Option (ℕ × LeaseRecord) → ClearTurn → Type 0
SeenBy sd image None turn = turn ≡ Done tt
SeenBy sd image (Some a) turn = FoundBy sd image a.0 a.1 turn

abbrev pub IsScanned : Id → Id → Turn Scan Scanned (Unit {0}) → ClearTurn → Type 0
IsScanned sd image (More s) turn = GoesOn (IsAt sd image (Scanning s)) turn
IsScanned sd image (Done seen) turn = SeenBy sd image seen.found turn
IsScanned sd image (Ended _ refusal) turn = turn ≡ Ended tt refusal

-- the next step of the scan is of the same scan, and the eighth is the last
abbrev pub IsScanOn : Scan → Turn Scan Scanned (Unit {0}) → Type 0
IsScanOn s step = MatchTurn step (λ next. IsNext s next × (scan_left next < scan_left s)) (λ _. steps_made s ≡ 7) (λ _ _. Unit {0})

-- a step of the scan, into a room of 65,536 bytes
abbrev pub ScansOn : Id → Id → Scan → ℕ → ℕ → ClearTurn → Content → Content → Type 0
ScansOn sd image s host faults turn d e =
    (step : Turn Scan Scanned (Unit {0})) × (before : List ℕ) × (room : List ℕ) × (length before ≡ 65536) × ScanSteps s host faults before room step d e × IsScanOn s step
    × IsScanned sd image step turn

-- ---- files go

abbrev pub IsRemovedBy : Id → Id → ℕ → LeaseRecord → RemovalTurn → ClearTurn → Type 0
IsRemovedBy sd image slot r (More m) turn = GoesOn (IsAt sd image (Removing slot r m)) turn
IsRemovedBy sd image slot r (Done _) turn = GoesOn (IsAt sd image (Emptying slot r)) turn
IsRemovedBy sd image slot r (Ended _ refusal) turn = turn ≡ Ended tt refusal

-- a removal that goes on is of the same image
abbrev pub IsSameRemoval : ImageRemoving → RemovalTurn → Type 0
IsSameRemoval m step = MatchTurn step (λ next. (next.sd ≡ m.sd) × (next.image ≡ m.image)) (λ _. Unit {0}) (λ _ _. Unit {0})

abbrev pub RemovesFiles : Id → Id → ℕ → LeaseRecord → ImageRemoving → ℕ → ClearTurn → Content → Content → Type 0
RemovesFiles sd image slot r m faults turn d e = (step : RemovalTurn) × Removal m faults step d e × IsSameRemoval m step × IsRemovedBy sd image slot r step turn

-- ---- the sector is emptied

abbrev pub EmptiedBy : Result (Unit {0}) Refusal → ClearTurn → Type 0
EmptiedBy (Ok _) turn = turn ≡ Done tt
EmptiedBy (Err refusal) turn = turn ≡ Ended tt refusal

abbrev pub EmptiesSector : Id → ℕ → LeaseRecord → ℕ → ClearTurn → Content → Content → Type 0
EmptiesSector sd slot r faults turn d e =
    (bytes : List ℕ) → Stands d sd slot bytes → (result : Result (Unit {0}) Refusal) × GivesUp sd slot r Empty faults bytes result d e × EmptiedBy result turn
