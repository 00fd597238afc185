-- The same steps, where what the work below them knows holds: what that work leaves.
use Rattle.std.specs.Prelude.{◌≡◌, ℕ, List, length, Result}
use Rattle.sd_names.specs.Turn.{MatchTurn}
use Rattle.sd_names.specs.declared.refusal.Refusal.{Refusal}
use Rattle.sd_names.specs.declared.turn.Turn.{Turn}
use Rattle.shared_disk.specs.Content.{Content}
use Rattle.shared_disk.specs.Refusal.{IsRisen}
use Rattle.lease_area.specs.Hold.{GivesUp, Stands, domain_of as lease_domain, record_of, slot_of}
use Rattle.lease_area.specs.Scan.{ScanSteps}
use Rattle.lease_area.specs.declared.lease.Lease.{Lease as Held}
use Rattle.lease_area.specs.declared.scan.Scan.{Scan}
use Rattle.lease_area.specs.declared.scanned.Scanned.{Scanned}
use Rattle.lease_area.specs.declared.sector.Sector.TheVariants.{Empty}
use Rattle.task_files.specs.Write.{WriteSteps}
use Rattle.task_files.specs.declared.write.TaskWrite.{TaskWrite}
use Rattle.image_creating.specs.Inner.{IsSameText, IsScanOn}
use Rattle.image_removing.specs.Removing.{RemovalTurn, own_folder as own_of, removed_folder as removed_of}
use Rattle.image_removing.specs.Steps.{Removal}
use Rattle.image_removing.specs.declared.removing.ImageRemoving.{ImageRemoving}
use Rattle.image_deleting.specs.Calls.{ClearedBy, IsEnded, IsOpened, IsRemovedBy, IsScanned, WriteTurn}
use Rattle.image_deleting.specs.Deleting.{DeleteTurn}
use Rattle.image_deleting.specs.declared.removal_task.RemovalTask.{RemovalTask}

-- no fault was counted, and none is told
abbrev pub IsUncounted : ℕ → ℕ → DeleteTurn → Type 0
IsUncounted before after turn = MatchTurn turn (λ _. Unit {0}) (λ _. Unit {0}) (λ _ refusal. IsRisen before after refusal)

abbrev pub ScansOn : RemovalTask → Scan → ℕ → ℕ → DeleteTurn → Content → Content → Type 0
ScansOn t s host faults turn d e =
    (step : Turn Scan Scanned (Unit {0})) × (before : List ℕ) × (room : List ℕ) × (length before ≡ 65536) × ScanSteps s host faults before room step d e × IsScanOn s step
    × IsScanned t step turn

abbrev pub OpensText : RemovalTask → Held → TaskWrite → ℕ → ℕ → DeleteTurn → Content → Content → Type 0
OpensText t lease w host faults turn d e = (step : WriteTurn) × WriteSteps w host faults t.begun step d e × IsSameText w step × IsOpened t lease step turn

abbrev pub EndsText : RemovalTask → TaskWrite → ℕ → ℕ → DeleteTurn → Content → Content → Type 0
EndsText t w host faults turn d e = (step : WriteTurn) × WriteSteps w host faults t.done step d e × IsSameText w step × IsEnded t step turn

-- a removal that goes on is of the same image
pub record IsSameRemoval (r next : ImageRemoving) : Type 0 where
  pub own : own_of next ≡ own_of r
  pub removed : removed_of next ≡ removed_of r

abbrev pub IsSameImage : ImageRemoving → RemovalTurn → Type 0
IsSameImage r step = MatchTurn step (λ next. IsSameRemoval r next) (λ _. Unit {0}) (λ _ _. Unit {0})

abbrev pub RemovesFiles : RemovalTask → Held → ImageRemoving → ℕ → DeleteTurn → Content → Content → Type 0
RemovesFiles t lease r faults turn d e = (step : RemovalTurn) × Removal r faults step d e × IsSameImage r step × IsRemovedBy t lease step turn

abbrev pub ClearsSector : RemovalTask → Held → ℕ → DeleteTurn → Content → Content → Type 0
ClearsSector t lease faults turn d e =
    (bytes : List ℕ) → Stands d (lease_domain lease) (slot_of lease) bytes
    → (result : Result (Unit {0}) Refusal) × GivesUp (lease_domain lease) (slot_of lease) (record_of lease) Empty faults bytes result d e × ClearedBy t result turn
