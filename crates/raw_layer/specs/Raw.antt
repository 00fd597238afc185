-- A raw volume's file: its bytes, then zeros; and what the steps of a read and of a write do.
use Rattle.std.specs.Prelude.{◌≡◌, ◌⊎◌, ℕ, ◌+◌, ◌*◌, ◌/◌, ◌<◌, ◌≤◌, List, length, Result, Some, None, nat_le, MatchBool}
use Rattle.sd_names.specs.declared.place.Place.{Place}
use Rattle.sd_names.specs.declared.refusal.Refusal.{Refusal}
use Rattle.sd_names.specs.declared.refusal.Refusal.TheVariants.{DiskFault, NoRoom}
use Rattle.sd_names.specs.declared.turn.Turn.{Turn}
use Rattle.sd_names.specs.declared.turn.Turn.TheVariants.{Done, Ended}
use Rattle.sd_names.specs.Turn.{MatchTurn}
use Rattle.shared_disk.specs.Content.{Content, File, Sees, sector_of, zero_sector}
use Rattle.shared_disk.specs.Calls.{IsSame, WriteAt, Syncs, HasLength}
use Rattle.shared_disk.specs.Refusal.{refusal_of}
use Rattle.shared_disk.specs.Step.{GoesOn, IsDiskRefusal, TurnFollows}
use Rattle.shared_disk.specs.declared.disk.DiskAnswer.{DiskAnswer}
use Rattle.shared_disk.specs.declared.disk.DiskAnswer.TheVariants.{NoFile}
use Rattle.raw_layer.specs.Place.{volume_of}
use Rattle.raw_layer.specs.declared.raw.Raw.{Raw}
use Rattle.raw_layer.specs.declared.read.RawRead.{RawRead}
use Rattle.raw_layer.specs.declared.write.RawWrite.{RawWrite}
use Rattle.raw_layer.specs.declared.write.Stage.{Stage}
use Rattle.raw_layer.specs.declared.write.Stage.TheVariants.{Begun, Fits, Written}

-- a raw volume: where its file is, its capacity, and a length that its file had, in bytes
abbrev pub place_of : Raw → Place
place_of raw = raw.place

abbrev pub capacity_of : Raw → ℕ
capacity_of raw = raw.capacity

abbrev pub known_length_of : Raw → ℕ
known_length_of raw = raw.length

-- a read: of which file, and from which byte on
abbrev pub read_place : RawRead → Place
read_place r = r.place

abbrev pub read_from : RawRead → ℕ
read_from r = r.at

-- a write: of which file, from which byte on, and how far it is
abbrev pub write_place : RawWrite → Place
write_place w = w.place

abbrev pub write_from : RawWrite → ℕ
write_from w = w.at

abbrev pub stage_of : RawWrite → Stage
stage_of w = w.stage

-- the sector as it reads to the host: the file's, and zeros past its end
abbrev pub ReadsSector : ℕ → File → ℕ → List ℕ → Type 0
ReadsSector host f k bytes = (k < f.size → Sees host f k bytes) × (f.size ≤ k → bytes ≡ zero_sector)

-- the part reads as the file does from the sector `at` on
abbrev pub ReadsFile : Content → ℕ → Place → ℕ → List ℕ → Type 0
ReadsFile d host place at part =
    (f : File) × (d.file place ≡ Some f) × ((k : ℕ) → 512 * (k + 1) ≤ length part → ReadsSector host f (at + k) (sector_of part k))

-- The one step of a read. The content stays as it was; `faults` is the disk's count after it.
abbrev pub ReadSteps : RawRead → ℕ → ℕ → List ℕ → Turn RawRead (Unit {0}) (Unit {0}) → Content → Content → Type 0
ReadSteps r host faults part turn d e = IsSame d e × MatchTurn turn
    (λ _. ⊥)
    (λ _. ReadsFile d host (read_place r) (read_from r / 512) part)
    (λ _ refusal. (refusal ≡ DiskFault faults) ⊎ ((refusal ≡ refusal_of NoFile faults) × (d.file (read_place r) ≡ None)))

-- a write of the same file, from the same byte on
pub record IsSameWrite (w next : RawWrite) : Type 0 where
  pub place : write_place next ≡ write_place w
  pub from : write_from next ≡ write_from w

-- the same write in another stage
pub record IsAt (w : RawWrite) (stage : Stage) (next : RawWrite) : Type 0 where
  pub same : IsSameWrite w next
  pub now_in : stage_of next ≡ stage

-- how many more steps a write takes at the most
abbrev pub left_of : Stage → ℕ
left_of (Begun known) = 3
left_of Fits = 2
left_of Written = 1

abbrev pub write_left : RawWrite → ℕ
write_left w = left_of (stage_of w)

-- one `write_at` of the part, whose answer decides the turn
abbrev pub WritesPart : RawWrite → ℕ → ℕ → List ℕ → Turn RawWrite (Unit {0}) (Unit {0}) → Content → Content → Type 0
WritesPart w host faults part turn d e =
    (answer : Result (Unit {0}) DiskAnswer) × WriteAt d host (write_place w) (write_from w / 512) part answer e
    × TurnFollows answer faults turn (λ _. GoesOn (IsAt w Written) turn)

-- one sync of the file, whose answer decides the turn
abbrev pub SyncsFile : RawWrite → ℕ → ℕ → Turn RawWrite (Unit {0}) (Unit {0}) → Content → Content → Type 0
SyncsFile w host faults turn d e =
    (answer : Result (Unit {0}) DiskAnswer) × Syncs d host (write_place w) answer e × TurnFollows answer faults turn (λ _. turn ≡ Done tt)

-- The file's length is asked: a part that ends past it is refused for want of room, any other is written next.
abbrev pub AsksLength : RawWrite → ℕ → ℕ → Turn RawWrite (Unit {0}) (Unit {0}) → Content → Content → Type 0
AsksLength w faults count turn d e =
    (answer : Result ℕ DiskAnswer) × HasLength d (write_place w) answer e
    × TurnFollows answer faults turn (λ n. MatchBool (nat_le (write_from w + count) n)
    (GoesOn (IsAt w Fits) turn)
    (turn ≡ Ended tt (NoRoom (volume_of (write_place w).name) n (write_from w + count))))

-- The step of a write, by its stage: what lies within the known length is written at once.
abbrev pub WriteSteps : Stage → RawWrite → ℕ → ℕ → List ℕ → Turn RawWrite (Unit {0}) (Unit {0}) → Content → Content → Type 0
WriteSteps (Begun known) w host faults part turn d e =
    MatchBool (nat_le (write_from w + length part) known) (WritesPart w host faults part turn d e) (AsksLength w faults (length part) turn d e)
WriteSteps Fits w host faults part turn d e = WritesPart w host faults part turn d e
WriteSteps Written w host faults part turn d e = SyncsFile w host faults turn d e

-- a part that ends at `end` lies past the length that was known and past the one that the file has
pub record LacksRoom (w : RawWrite) (known end : ℕ) (refusal : Refusal) : Type 0 where
  pub asked : known < end
  pub room : ℕ
  pub short : room < end
  pub is : refusal ≡ NoRoom (volume_of (write_place w).name) room end

-- The refusals of a step of a write of a part that ends at `end`: those that stand for an answer of the disk and, in the
-- step that asks for the length, the want of room.
abbrev pub IsWriteRefusal : Stage → RawWrite → ℕ → Refusal → Type 0
IsWriteRefusal (Begun known) w end refusal = IsDiskRefusal refusal ⊎ LacksRoom w known end refusal
IsWriteRefusal Fits w end refusal = IsDiskRefusal refusal
IsWriteRefusal Written w end refusal = IsDiskRefusal refusal
