-- The call of each step, by its stage, whatever stands in the folder: some answer that fits the call, and the turn that follows.
use Rattle.std.specs.Prelude.{◌≡◌, ℕ, List, length, Option, Some, None, Result, Ok, Err}
use Rattle.sd_names.specs.UpSet.{Hosts}
use Rattle.sd_names.specs.declared.place.Dir.TheVariants as dir
use Rattle.sd_names.specs.declared.place.Name.{Name}
use Rattle.sd_names.specs.declared.refusal.Refusal.{Refusal}
use Rattle.sd_names.specs.declared.refusal.Refusal.TheVariants.{ImageExists, LeaseAreaFull}
use Rattle.sd_names.specs.declared.turn.Turn.{Turn}
use Rattle.sd_names.specs.declared.turn.Turn.TheVariants.{More, Done, Ended}
use Rattle.shared_disk.specs.Content.{Content}
use Rattle.shared_disk.specs.NameCalls.{NextName}
use Rattle.shared_disk.specs.Step.{GoesOn, TurnFollows}
use Rattle.shared_disk.specs.declared.disk.DiskAnswer.{DiskAnswer}
use Rattle.shared_disk.specs.declared.disk.DiskAnswer.TheVariants.{NoFile}
use Rattle.lease_area.specs.Hold.{ByOneExchange, domain_of as lease_domain, giving_answer, image_answer_to, record_of, slot_of}
use Rattle.lease_area.specs.Move.{freed}
use Rattle.lease_area.specs.Noted.{nothing_seen}
use Rattle.lease_area.specs.Scan.{ScanSteps, scan_domain, scan_image, seen_by, steps_made}
use Rattle.lease_area.specs.declared.lease.Lease.{Lease as Held}
use Rattle.lease_area.specs.declared.scan.Scan.{Scan}
use Rattle.lease_area.specs.declared.scanned.Scanned.{Scanned}
use Rattle.lease_area.specs.declared.sector.Kind.TheVariants.{Task as ForTask}
use Rattle.lease_area.specs.declared.sector.LeaseRecord.{LeaseRecord}
use Rattle.lease_area.specs.declared.sector.Sector.TheVariants.{Empty, Lease}
use Rattle.task_files.specs.Write.{CallOf as WriteCall, file_of, stage_of as write_stage, volatile_of}
use Rattle.task_files.specs.declared.write.TaskWrite.{TaskWrite}
use Rattle.whole_file.specs.declared.replace.Stage.TheVariants as replacing
use Rattle.image_making.specs.Making.{stage_of as making_stage}
use Rattle.image_making.specs.Steps.{CallOf as MakingCall, MakeTurn}
use Rattle.image_making.specs.declared.making.ImageMaking.{ImageMaking}
use Rattle.image_creating.specs.Creating.{CreateTurn, stage_of, under_of}
use Rattle.image_creating.specs.ImageTask.{domain_of, held, image_of, new_place_of, place_of}
use Rattle.image_creating.specs.declared.creating.CreateImage.{CreateImage}
use Rattle.image_creating.specs.declared.creating.Stage.{Stage}
use Rattle.image_creating.specs.declared.creating.Stage.TheVariants.{Asking, Scanning, Opening, Taking, Making, Ending, Releasing}
use Rattle.image_creating.specs.declared.image_task.ImageTask.{ImageTask}

-- the creation under this task, in this stage
pub record IsAt (t : ImageTask) (now : Stage) (next : CreateImage) : Type 0 where
  pub same : under_of next ≡ t
  pub now_in : stage_of next ≡ now

-- ---- the folder asked for: one that is there is refused, and where none is the sectors are read

pub record IsScanBegun (t : ImageTask) (s : Scan) : Type 0 where
  pub domain : scan_domain s ≡ domain_of t
  pub image : scan_image s ≡ image_of t
  pub made : steps_made s ≡ 0
  pub seen : seen_by s ≡ nothing_seen

abbrev pub AskedBy : ImageTask → ImageMaking → ℕ → Result (Option Name) DiskAnswer → CreateTurn → Type 0
AskedBy t m faults (Err NoFile) turn = (s : Scan) × GoesOn (IsAt t (Scanning m s)) turn × IsScanBegun t s
AskedBy t m faults answer turn = TurnFollows answer faults turn (λ _. turn ≡ Ended tt ImageExists)

abbrev pub Asks : ImageTask → ImageMaking → ℕ → CreateTurn → Content → Content → Type 0
Asks t m faults turn d e = (answer : Result (Option Name) DiskAnswer) × NextName d (dir.Image (domain_of t) (image_of t)) None answer e × AskedBy t m faults answer turn

-- ---- the sectors read

-- a write of a text of the task has begun
pub record IsWriteBegun (t : ImageTask) (w : TaskWrite) : Type 0 where
  pub file : file_of w ≡ place_of t
  pub volatile : volatile_of w ≡ new_place_of t
  pub stage : write_stage w ≡ replacing.Begun

-- what was seen: a sector that names the image, none that is empty, or the least that is
abbrev pub SeenBy : ImageTask → ImageMaking → Option (ℕ × LeaseRecord) → Option ℕ → CreateTurn → Type 0
SeenBy t m (Some a) empty turn = turn ≡ Ended tt ImageExists
SeenBy t m None None turn = turn ≡ Ended tt LeaseAreaFull
SeenBy t m None (Some slot) turn = (w : TaskWrite) × GoesOn (IsAt t (Opening m slot w)) turn × IsWriteBegun t w

abbrev pub IsScanned : ImageTask → ImageMaking → Turn Scan Scanned (Unit {0}) → CreateTurn → Type 0
IsScanned t m (More s) turn = GoesOn (IsAt t (Scanning m s)) turn
IsScanned t m (Done seen) turn = SeenBy t m seen.found seen.empty turn
IsScanned t m (Ended _ refusal) turn = turn ≡ Ended tt refusal

-- a step of the scan, into a room of 65,536 bytes
abbrev pub Scans : ImageTask → ImageMaking → Scan → ℕ → ℕ → CreateTurn → Content → Content → Type 0
Scans t m s host faults turn d e =
    (step : Turn Scan Scanned (Unit {0})) × (before : List ℕ) × (room : List ℕ) × (length before ≡ 65536) × ScanSteps s host faults before room step d e × IsScanned t m step turn

-- ---- a text of the task written

abbrev pub WriteTurn : Type 0
WriteTurn = Turn TaskWrite (Unit {0}) (Unit {0})

abbrev pub IsOpened : ImageTask → ImageMaking → ℕ → WriteTurn → CreateTurn → Type 0
IsOpened t m slot (More w) turn = GoesOn (IsAt t (Opening m slot w)) turn
IsOpened t m slot (Done _) turn = GoesOn (IsAt t (Taking m slot)) turn
IsOpened t m slot (Ended _ refusal) turn = turn ≡ Ended tt refusal

abbrev pub Opens : ImageTask → ImageMaking → ℕ → TaskWrite → ℕ → ℕ → CreateTurn → Content → Content → Type 0
Opens t m slot w host faults turn d e = (step : WriteTurn) × WriteCall w host faults t.begun step d e × IsOpened t m slot step turn

abbrev pub IsEnded : ImageTask → Held → WriteTurn → CreateTurn → Type 0
IsEnded t lease (More w) turn = GoesOn (IsAt t (Ending lease w)) turn
IsEnded t lease (Done _) turn = GoesOn (IsAt t (Releasing lease)) turn
IsEnded t lease (Ended _ refusal) turn = turn ≡ Ended tt refusal

abbrev pub Ends : ImageTask → Held → TaskWrite → ℕ → ℕ → CreateTurn → Content → Content → Type 0
Ends t lease w host faults turn d e = (step : WriteTurn) × WriteCall w host faults t.done step d e × IsEnded t lease step turn

-- ---- the sector taken, by one exchange of an empty one

-- the lease that was taken has this record, in this sector
pub record IsLeaseAt (t : ImageTask) (slot : ℕ) (r : LeaseRecord) (lease : Held) : Type 0 where
  pub domain : lease_domain lease ≡ domain_of t
  pub slot_is : slot_of lease ≡ slot
  pub lease_is : record_of lease ≡ r

abbrev pub TakenBy : ImageTask → ImageMaking → ℕ → Result LeaseRecord Refusal → CreateTurn → Type 0
TakenBy t m slot (Ok r) turn = (lease : Held) × GoesOn (IsAt t (Making m lease)) turn × IsLeaseAt t slot r lease
TakenBy t m slot (Err refusal) turn = turn ≡ Ended tt refusal

abbrev pub Takes : ImageTask → ImageMaking → ℕ → ℕ → Hosts → ℕ → CreateTurn → Content → Content → Type 0
Takes t m slot host up faults turn d e =
    (result : Result LeaseRecord Refusal) × ByOneExchange host (domain_of t) slot Empty (held t host) (image_answer_to up host ForTask (image_of t) Empty faults) result d e
    × TakenBy t m slot result turn

-- ---- the files made; once they are there, the text of the task that is done is written

abbrev pub IsMadeBy : ImageTask → Held → MakeTurn → CreateTurn → Type 0
IsMadeBy t lease (More m) turn = GoesOn (IsAt t (Making m lease)) turn
IsMadeBy t lease (Done _) turn = (w : TaskWrite) × GoesOn (IsAt t (Ending lease w)) turn × IsWriteBegun t w
IsMadeBy t lease (Ended _ refusal) turn = turn ≡ Ended tt refusal

abbrev pub Makes : ImageTask → ImageMaking → Held → ℕ → ℕ → CreateTurn → Content → Content → Type 0
Makes t m lease host faults turn d e = (step : MakeTurn) × MakingCall (making_stage m) m host faults step d e × IsMadeBy t lease step turn

-- ---- the sector freed, by one exchange

abbrev pub ReleasedBy : Result (Unit {0}) Refusal → CreateTurn → Type 0
ReleasedBy (Ok _) turn = turn ≡ Done tt
ReleasedBy (Err refusal) turn = turn ≡ Ended tt refusal

abbrev pub Releases : Held → ℕ → ℕ → CreateTurn → Content → Content → Type 0
Releases lease host faults turn d e =
    (result : Result (Unit {0}) Refusal)
    × ByOneExchange host (lease_domain lease) (slot_of lease) (Lease (record_of lease)) (Lease (freed (record_of lease))) (giving_answer faults) result d e
    × ReleasedBy result turn

-- ---- each stage's

abbrev pub CallIn : Stage → ImageTask → ℕ → Hosts → ℕ → CreateTurn → Content → Content → Type 0
CallIn (Asking m) t host up faults turn d e = Asks t m faults turn d e
CallIn (Scanning m s) t host up faults turn d e = Scans t m s host faults turn d e
CallIn (Opening m slot w) t host up faults turn d e = Opens t m slot w host faults turn d e
CallIn (Taking m slot) t host up faults turn d e = Takes t m slot host up faults turn d e
CallIn (Making m lease) t host up faults turn d e = Makes t m lease host faults turn d e
CallIn (Ending lease w) t host up faults turn d e = Ends t lease w host faults turn d e
CallIn (Releasing lease) t host up faults turn d e = Releases lease host faults turn d e

abbrev pub CallOf : CreateImage → ℕ → Hosts → ℕ → CreateTurn → Content → Content → Type 0
CallOf c host up faults turn d e = CallIn (stage_of c) (under_of c) host up faults turn d e
