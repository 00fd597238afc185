-- The same steps, where what the work below them knows holds: what that work leaves.
use Rattle.std.specs.Prelude.{◌≡◌, ℕ, List, length, Result}
use Rattle.sd_names.specs.Turn.{MatchTurn}
use Rattle.sd_names.specs.declared.refusal.Refusal.{Refusal}
use Rattle.sd_names.specs.declared.turn.Turn.{Turn}
use Rattle.shared_disk.specs.Content.{Content}
use Rattle.shared_disk.specs.Refusal.{IsRisen}
use Rattle.lease_area.specs.Hold.{GivesUp, Stands, domain_of as lease_domain, record_of, slot_of}
use Rattle.lease_area.specs.Move.{freed}
use Rattle.lease_area.specs.Scan.{IsNext, ScanSteps, steps_made}
use Rattle.lease_area.specs.declared.lease.Lease.{Lease as Held}
use Rattle.lease_area.specs.declared.scan.Scan.{Scan}
use Rattle.lease_area.specs.declared.scanned.Scanned.{Scanned}
use Rattle.lease_area.specs.declared.sector.Sector.TheVariants.{Lease}
use Rattle.task_files.specs.Write.{IsSameWrite, WriteSteps}
use Rattle.task_files.specs.declared.write.TaskWrite.{TaskWrite}
use Rattle.image_making.specs.Making.{IsOf, image_of as made_in}
use Rattle.image_making.specs.Steps.{MakeSteps, MakeTurn}
use Rattle.image_making.specs.declared.making.ImageMaking.{ImageMaking}
use Rattle.image_creating.specs.Calls.{IsEnded, IsMadeBy, IsOpened, IsScanned, ReleasedBy, WriteTurn}
use Rattle.image_creating.specs.Creating.{CreateTurn}
use Rattle.image_creating.specs.declared.image_task.ImageTask.{ImageTask}

-- no fault was counted, and none is told
abbrev pub IsUncounted : ℕ → ℕ → CreateTurn → Type 0
IsUncounted before after turn = MatchTurn turn (λ _. Unit {0}) (λ _. Unit {0}) (λ _ refusal. IsRisen before after refusal)

-- the next step of the scan is of the same scan, and the eighth is the last
abbrev pub IsScanOn : Scan → Turn Scan Scanned (Unit {0}) → Type 0
IsScanOn s step = MatchTurn step (λ next. IsNext s next) (λ _. steps_made s ≡ 7) (λ _ _. Unit {0})

abbrev pub ScansOn : ImageTask → ImageMaking → Scan → ℕ → ℕ → CreateTurn → Content → Content → Type 0
ScansOn t m s host faults turn d e =
    (step : Turn Scan Scanned (Unit {0})) × (before : List ℕ) × (room : List ℕ) × (length before ≡ 65536) × ScanSteps s host faults before room step d e × IsScanOn s step
    × IsScanned t m step turn

-- a write that goes on is of the same file
abbrev pub IsSameText : TaskWrite → WriteTurn → Type 0
IsSameText w step = MatchTurn step (λ next. IsSameWrite w next) (λ _. Unit {0}) (λ _ _. Unit {0})

abbrev pub OpensText : ImageTask → ImageMaking → ℕ → TaskWrite → ℕ → ℕ → CreateTurn → Content → Content → Type 0
OpensText t m slot w host faults turn d e = (step : WriteTurn) × WriteSteps w host faults t.begun step d e × IsSameText w step × IsOpened t m slot step turn

abbrev pub EndsText : ImageTask → Held → TaskWrite → ℕ → ℕ → CreateTurn → Content → Content → Type 0
EndsText t lease w host faults turn d e = (step : WriteTurn) × WriteSteps w host faults t.done step d e × IsSameText w step × IsEnded t lease step turn

-- a making that goes on is of the same image
abbrev pub IsSameImage : ImageMaking → MakeTurn → Type 0
IsSameImage m step = MatchTurn step (λ next. IsOf (made_in m) next) (λ _. Unit {0}) (λ _ _. Unit {0})

abbrev pub MakesFiles : ImageTask → ImageMaking → Held → ℕ → ℕ → CreateTurn → Content → Content → Type 0
MakesFiles t m lease host faults turn d e = (step : MakeTurn) × MakeSteps m host faults step d e × IsSameImage m step × IsMadeBy t lease step turn

abbrev pub FreesSector : Held → ℕ → CreateTurn → Content → Content → Type 0
FreesSector lease faults turn d e =
    (bytes : List ℕ) → Stands d (lease_domain lease) (slot_of lease) bytes
    → (result : Result (Unit {0}) Refusal) × GivesUp (lease_domain lease) (slot_of lease) (record_of lease) (Lease (freed (record_of lease))) faults bytes result d e × ReleasedBy result turn
