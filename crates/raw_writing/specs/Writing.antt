-- A write of a part to a raw volume of an open chain: what is known between its steps, and what each step leaves.
use Rattle.std.specs.Prelude.{◌≡◌, ◌⊎◌, ℕ, ◌+◌, ◌*◌, ◌<◌, ◌≤◌, List, length, Some}
use Rattle.sd_names.specs.Turn.{MatchTurn}
use Rattle.sd_names.specs.declared.id.Id.{Id}
use Rattle.sd_names.specs.declared.kinds.Format.TheVariants as format
use Rattle.sd_names.specs.declared.refusal.Refusal.{Refusal}
use Rattle.sd_names.specs.declared.refusal.Refusal.TheVariants.{DiskFault, NoRoom}
use Rattle.sd_names.specs.declared.turn.Turn.{Turn}
use Rattle.shared_disk.specs.Calls.{IsSame, sectors_in}
use Rattle.shared_disk.specs.Content.{Content, File}
use Rattle.shared_disk.specs.Crash.{IsAlone, IsSettled}
use Rattle.raw_layer.specs.Part.{SeesPart}
use Rattle.raw_layer.specs.Raw.{IsSameWrite, IsWriteRefusal, stage_of, write_from, write_left, write_place}
use Rattle.raw_layer.specs.declared.write.RawWrite.{RawWrite}
use Rattle.raw_layer.specs.declared.write.Stage.{Stage}
use Rattle.raw_layer.specs.declared.write.Stage.TheVariants.{Begun, Fits, Written}
use Rattle.volume_meta.specs.declared.record.VolumeRecord.{VolumeRecord}
use Rattle.chain_model.specs.Folder.{Folder, folder_of}
use Rattle.chain_laws.specs.Laid.{Laying, Part}
use Rattle.chain_laws.specs.Written.{ComesWritten}
use Rattle.volume_chain.specs.Chain.{dir_in, place_in, target_of}
use Rattle.volume_chain.specs.Knowing.{KnowsChain}
use Rattle.volume_chain.specs.declared.chain.Chain.{Chain}
use Rattle.raw_writing.specs.Image.{AreSettledBut, IsOnMedium, IsPartOf, OnlyChanges}
use Rattle.raw_writing.specs.declared.writing.RawWriting.{RawWriting}

abbrev pub WritingTurn : Type 0
WritingTurn = Turn RawWriting (Unit {0}) (Unit {0})

-- which volume is written, the file's write, and from which byte on
abbrev pub volume_of : RawWriting → Id
volume_of w = w.volume

abbrev pub write_of : RawWriting → RawWrite
write_of w = w.write

abbrev pub from_of : RawWriting → ℕ
from_of w = write_from w.write

-- how many more steps it takes at the most
abbrev pub steps_left : RawWriting → ℕ
steps_left w = write_left w.write

-- a write of the same part of the same volume
pub record IsSameWriting (w next : RawWriting) : Type 0 where
  pub volume : volume_of next ≡ volume_of w
  pub write : IsSameWrite (write_of w) (write_of next)

-- a refusal of a step on every disk, of a part of so many bytes
abbrev pub IsWritingRefusal : RawWriting → ℕ → Refusal → Type 0
IsWritingRefusal w count refusal = IsWriteRefusal (stage_of w.write) w.write (write_from w.write + count) refusal

-- a write that was begun: it has three steps
pub record IsBegun (c : Chain) (v : Id) (at : ℕ) (w : RawWriting) : Type 0 where
  pub volume : volume_of w ≡ v
  pub place : write_place (write_of w) ≡ place_in (target_of c) v
  pub from : from_of w ≡ at
  pub stage : stage_of (write_of w) ≡ Begun 0

-- What is known of the volume's file by the stage: nothing in it is unsynced; the part lies within it; or its host alone writes
-- it and sees the part in it.
abbrev pub KnowsRawFile : Stage → ℕ → Part → File → Type 0
KnowsRawFile (Begun known) host p f = IsSettled f × (known ≤ 512 * f.size)
KnowsRawFile Fits host p f = IsSettled f × (p.at + sectors_in p.bytes ≤ f.size)
KnowsRawFile Written host p f = IsAlone host f × SeesPart host p.at p.bytes f

-- What is known between the steps of a write that began in the folder `start`: each outcome is one from the begin, but that
-- each sector of the part may be old or new.
pub record Knows (w : RawWriting) (c : Chain) (l : Laying) (x : VolumeRecord) (host : ℕ) (start : Folder) (d : Content) : Type 0 where
  pub of : IsPartOf l c x
  pub raw : x.format ≡ format.Raw
  pub volume : volume_of w ≡ l.volume
  pub place : write_place (write_of w) ≡ place_in (target_of c) l.volume
  pub from : from_of w ≡ 512 * l.part.at
  pub chain : KnowsChain c host d
  pub rest : AreSettledBut (dir_in (target_of c)) l.volume d
  pub comes : ComesWritten l start (folder_of (dir_in (target_of c)) d)
  pub file : File
  pub there : d.file (place_in (target_of c) l.volume) ≡ Some file
  pub stage : KnowsRawFile (stage_of (write_of w)) host l.part file

-- Want of room: the part ends past the file, and nothing is changed. The refusal says the file's length, and where the part
-- ends.
pub record LacksRoom (c : Chain) (l : Laying) (refusal : Refusal) (d e : Content) : Type 0 where
  pub file : File
  pub there : d.file (place_in (target_of c) l.volume) ≡ Some file
  pub short : file.size < l.part.at + sectors_in l.part.bytes
  pub says : refusal ≡ NoRoom l.volume (512 * file.size) (512 * l.part.at + length l.part.bytes)
  pub same : IsSame d e

-- What a step leaves, a refused one too.
pub record Writes (w : RawWriting) (c : Chain) (l : Laying) (x : VolumeRecord) (host faults : ℕ) (start : Folder) (turn : WritingTurn) (d e : Content) : Type 0 where
  pub only : OnlyChanges (place_in (target_of c) l.volume) d e
  pub chain : KnowsChain c host e
  pub comes : ComesWritten l start (folder_of (dir_in (target_of c)) e)
  pub after : MatchTurn turn
      (λ next. Knows next c l x host start e)
      (λ _. IsOnMedium c l host e)
      (λ _ refusal. (refusal ≡ DiskFault faults) ⊎ LacksRoom c l refusal d e)

abbrev pub WritesOn : RawWriting → ℕ → ℕ → List ℕ → WritingTurn → Content → Content → Type 0
WritesOn w host faults part turn d e = (c : Chain) (l : Laying) (x : VolumeRecord) (start : Folder) → Knows w c l x host start d → l.part.bytes ≡ part
    → Writes w c l x host faults start turn d e
