-- The call of each step, by its stage, whatever stands in the folder: some answer that fits the call, and the turn that follows.
use Rattle.std.specs.Prelude.{◌≡◌, ℕ, List, length, Option, Some, None, Result, Ok, Err}
use Rattle.sd_names.specs.UpSet.{Hosts}
use Rattle.sd_names.specs.declared.refusal.Refusal.{Refusal}
use Rattle.sd_names.specs.declared.refusal.Refusal.TheVariants.{NoImage}
use Rattle.sd_names.specs.declared.turn.Turn.{Turn}
use Rattle.sd_names.specs.declared.turn.Turn.TheVariants.{More, Done, Ended}
use Rattle.shared_disk.specs.Content.{Content}
use Rattle.shared_disk.specs.Step.{GoesOn}
use Rattle.lease_area.specs.Hold.{ByOneExchange, domain_of as lease_domain, giving_answer, image_answer_to, record_of, slot_of}
use Rattle.lease_area.specs.Move.{image_taken, next_sector}
use Rattle.lease_area.specs.Scan.{ScanSteps}
use Rattle.lease_area.specs.declared.lease.Lease.{Lease as Held}
use Rattle.lease_area.specs.declared.scan.Scan.{Scan}
use Rattle.lease_area.specs.declared.scanned.Scanned.{Scanned}
use Rattle.lease_area.specs.declared.sector.Kind.TheVariants.{Task as ForTask}
use Rattle.lease_area.specs.declared.sector.LeaseRecord.{LeaseRecord}
use Rattle.lease_area.specs.declared.sector.Sector.TheVariants.{Empty, Lease}
use Rattle.task_files.specs.Write.{CallOf as WriteCall, file_of, stage_of as write_stage, volatile_of}
use Rattle.task_files.specs.declared.write.TaskWrite.{TaskWrite}
use Rattle.whole_file.specs.declared.replace.Stage.TheVariants as replacing
use Rattle.image_removing.specs.Removing.{IsBegun as IsRemovalBegun, RemovalTurn}
use Rattle.image_removing.specs.Steps.{CallOf as RemovalCall}
use Rattle.image_removing.specs.declared.removing.ImageRemoving.{ImageRemoving}
use Rattle.image_deleting.specs.Deleting.{DeleteTurn, stage_of, under_of}
use Rattle.image_deleting.specs.RemovalTask.{domain_of, image_of, new_place_of, place_of}
use Rattle.image_deleting.specs.declared.deleting.DeleteImage.{DeleteImage}
use Rattle.image_deleting.specs.declared.deleting.Stage.{Stage}
use Rattle.image_deleting.specs.declared.deleting.Stage.TheVariants.{Scanning, Taking, Opening, Removing, Clearing, Ending}
use Rattle.image_deleting.specs.declared.removal_task.RemovalTask.{RemovalTask}

-- the deletion under this task, in this stage
pub record IsAt (t : RemovalTask) (now : Stage) (next : DeleteImage) : Type 0 where
  pub same : under_of next ≡ t
  pub now_in : stage_of next ≡ now

-- a write of a text of the task has begun
pub record IsWriteBegun (t : RemovalTask) (w : TaskWrite) : Type 0 where
  pub file : file_of w ≡ place_of t
  pub volatile : volatile_of w ≡ new_place_of t
  pub stage : write_stage w ≡ replacing.Begun

-- ---- the sectors read: the least that names the image is taken; where none does, the image is refused

abbrev pub SeenBy : RemovalTask → Option (ℕ × LeaseRecord) → DeleteTurn → Type 0
SeenBy t (Some a) turn = GoesOn (IsAt t (Taking a.0 a.1)) turn
SeenBy t None turn = turn ≡ Ended tt NoImage

abbrev pub IsScanned : RemovalTask → Turn Scan Scanned (Unit {0}) → DeleteTurn → Type 0
IsScanned t (More s) turn = GoesOn (IsAt t (Scanning s)) turn
IsScanned t (Done seen) turn = SeenBy t seen.found turn
IsScanned t (Ended _ refusal) turn = turn ≡ Ended tt refusal

-- a step of the scan, into a room of 65,536 bytes
abbrev pub Scans : RemovalTask → Scan → ℕ → ℕ → DeleteTurn → Content → Content → Type 0
Scans t s host faults turn d e =
    (step : Turn Scan Scanned (Unit {0})) × (before : List ℕ) × (room : List ℕ) × (length before ≡ 65536) × ScanSteps s host faults before room step d e × IsScanned t step turn

-- ---- the sector taken, by one exchange of what was read

-- the lease that was taken has this record, in this sector
pub record IsLeaseAt (t : RemovalTask) (slot : ℕ) (r : LeaseRecord) (lease : Held) : Type 0 where
  pub domain : lease_domain lease ≡ domain_of t
  pub slot_is : slot_of lease ≡ slot
  pub lease_is : record_of lease ≡ r
  pub kind_is : r.kind ≡ ForTask

abbrev pub TakenBy : RemovalTask → ℕ → Result LeaseRecord Refusal → DeleteTurn → Type 0
TakenBy t slot (Ok r) turn = (lease : Held) × (w : TaskWrite) × GoesOn (IsAt t (Opening lease w)) turn × IsLeaseAt t slot r lease × IsWriteBegun t w
TakenBy t slot (Err refusal) turn = turn ≡ Ended tt refusal

abbrev pub Takes : RemovalTask → ℕ → LeaseRecord → ℕ → Hosts → ℕ → DeleteTurn → Content → Content → Type 0
Takes t slot found host up faults turn d e =
    (result : Result LeaseRecord Refusal)
    × ByOneExchange host (domain_of t) slot (Lease found) (next_sector (image_taken up host ForTask (image_of t) (Lease found)) (Lease found))
    (image_answer_to up host ForTask (image_of t) (Lease found) faults) result d e
    × TakenBy t slot result turn

-- ---- a text of the task written

abbrev pub WriteTurn : Type 0
WriteTurn = Turn TaskWrite (Unit {0}) (Unit {0})

abbrev pub IsOpened : RemovalTask → Held → WriteTurn → DeleteTurn → Type 0
IsOpened t lease (More w) turn = GoesOn (IsAt t (Opening lease w)) turn
IsOpened t lease (Done _) turn = (r : ImageRemoving) × GoesOn (IsAt t (Removing lease r)) turn × IsRemovalBegun (domain_of t) (image_of t) r
IsOpened t lease (Ended _ refusal) turn = turn ≡ Ended tt refusal

abbrev pub Opens : RemovalTask → Held → TaskWrite → ℕ → ℕ → DeleteTurn → Content → Content → Type 0
Opens t lease w host faults turn d e = (step : WriteTurn) × WriteCall w host faults t.begun step d e × IsOpened t lease step turn

abbrev pub IsEnded : RemovalTask → WriteTurn → DeleteTurn → Type 0
IsEnded t (More w) turn = GoesOn (IsAt t (Ending w)) turn
IsEnded t (Done _) turn = turn ≡ Done tt
IsEnded t (Ended _ refusal) turn = turn ≡ Ended tt refusal

abbrev pub Ends : RemovalTask → TaskWrite → ℕ → ℕ → DeleteTurn → Content → Content → Type 0
Ends t w host faults turn d e = (step : WriteTurn) × WriteCall w host faults t.done step d e × IsEnded t step turn

-- ---- the image's files removed

abbrev pub IsRemovedBy : RemovalTask → Held → RemovalTurn → DeleteTurn → Type 0
IsRemovedBy t lease (More r) turn = GoesOn (IsAt t (Removing lease r)) turn
IsRemovedBy t lease (Done _) turn = GoesOn (IsAt t (Clearing lease)) turn
IsRemovedBy t lease (Ended _ refusal) turn = turn ≡ Ended tt refusal

abbrev pub Removes : RemovalTask → Held → ImageRemoving → ℕ → DeleteTurn → Content → Content → Type 0
Removes t lease r faults turn d e = (step : RemovalTurn) × RemovalCall r faults step d e × IsRemovedBy t lease step turn

-- ---- the sector emptied, by one exchange; then the text of the task that is done is written

abbrev pub ClearedBy : RemovalTask → Result (Unit {0}) Refusal → DeleteTurn → Type 0
ClearedBy t (Ok _) turn = (w : TaskWrite) × GoesOn (IsAt t (Ending w)) turn × IsWriteBegun t w
ClearedBy t (Err refusal) turn = turn ≡ Ended tt refusal

abbrev pub Clears : RemovalTask → Held → ℕ → ℕ → DeleteTurn → Content → Content → Type 0
Clears t lease host faults turn d e =
    (result : Result (Unit {0}) Refusal)
    × ByOneExchange host (lease_domain lease) (slot_of lease) (Lease (record_of lease)) Empty (giving_answer faults) result d e
    × ClearedBy t result turn

-- ---- each stage's

abbrev pub CallIn : Stage → RemovalTask → ℕ → Hosts → ℕ → DeleteTurn → Content → Content → Type 0
CallIn (Scanning s) t host up faults turn d e = Scans t s host faults turn d e
CallIn (Taking slot found) t host up faults turn d e = Takes t slot found host up faults turn d e
CallIn (Opening lease w) t host up faults turn d e = Opens t lease w host faults turn d e
CallIn (Removing lease r) t host up faults turn d e = Removes t lease r faults turn d e
CallIn (Clearing lease) t host up faults turn d e = Clears t lease host faults turn d e
CallIn (Ending w) t host up faults turn d e = Ends t w host faults turn d e

abbrev pub CallOf : DeleteImage → ℕ → Hosts → ℕ → DeleteTurn → Content → Content → Type 0
CallOf c host up faults turn d e = CallIn (stage_of c) (under_of c) host up faults turn d e
