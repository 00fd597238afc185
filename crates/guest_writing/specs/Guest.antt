-- A guest's write in public words: what it knows between its steps, and what each step leaves.
use Rattle.std.specs.Prelude.{◌≡◌, ℕ, ◌*◌, ◌<◌, List}
use Rattle.sd_names.specs.Turn.{MatchTurn}
use Rattle.sd_names.specs.declared.id.Id.{Id}
use Rattle.sd_names.specs.declared.refusal.Refusal.{Refusal}
use Rattle.sd_names.specs.declared.turn.Turn.{Turn}
use Rattle.shared_disk.specs.Content.{Content}
use Rattle.volume_meta.specs.declared.record.VolumeRecord.{VolumeRecord}
use Rattle.chain_model.specs.Chain.{IsBelow}
use Rattle.chain_model.specs.Folder.{Folder, Volumes, folder_of}
use Rattle.chain_laws.specs.Laid.{Laying, Reads}
use Rattle.chain_gathering.specs.Knowing.{volumes_in}
use Rattle.volume_chain.specs.Chain.{dir_in, target_of}
use Rattle.volume_chain.specs.declared.chain.Chain.{Chain}
use Rattle.raw_writing.specs.Image.{IsPartOf}
use Rattle.guest_writing.specs.Knowing.{IsWriteOf, KnowsStage, MayBeWritten}
use Rattle.guest_writing.specs.Left.{begins_at, stage_left}
use Rattle.guest_writing.specs.Way.{IsBehind, StageKeeps, StageOnWay, StageRefusal, StandsOpen}
use Rattle.guest_writing.specs.Writing.{IsDone, IsRefused, Leaves}
use Rattle.guest_writing.specs.declared.guest.GuestWrite.{GuestWrite}

abbrev pub GuestTurn : Type 0
GuestTurn = Turn GuestWrite (Unit {0}) (Unit {0})

-- which volume is written, and from which byte on
abbrev pub volume_of : GuestWrite → Id
volume_of w = w.volume

abbrev pub at_of : GuestWrite → ℕ
at_of w = w.at

-- ---- on every disk

-- A write of a part of so many bytes goes on with this chain: at its begin its volume stands open, and from then on the stage fits
-- the chain and the part.
abbrev pub IsOnWay : GuestWrite → Chain → ℕ → Type 0
IsOnWay w c count = StageOnWay w.stage w.volume w.at c count

abbrev pub StaysOnWay : Chain → ℕ → GuestTurn → Type 0
StaysOnWay c count turn = MatchTurn turn (λ next. IsOnWay next c count) (λ _. Unit {0}) (λ _ _. Unit {0})

-- The chain is the same, but for a layer that became another of the same volume and file. In the stages of a raw volume it is the
-- same.
abbrev pub IsWrittenChain : GuestWrite → Chain → Chain → Type 0
IsWrittenChain w c next = StageKeeps w.stage c next

abbrev pub IsGuestRefusal : GuestWrite → Chain → ℕ → Refusal → Type 0
IsGuestRefusal w c count refusal = StageRefusal w.stage c count refusal

-- the write is in a stage behind, or in the same one with fewer steps left in it
abbrev pub Falls : GuestWrite → Chain → GuestTurn → Type 0
Falls w c turn = MatchTurn turn (λ next. IsBehind w.stage c next.stage) (λ _. Unit {0}) (λ _ _. Unit {0})

-- how many steps are left at the most, with this chain, of a part of so many bytes
abbrev pub guest_left : GuestWrite → Chain → ℕ → ℕ
guest_left w c count = stage_left w.stage w.volume w.at c count

abbrev pub Nears : GuestWrite → Chain → Chain → ℕ → GuestTurn → Type 0
Nears w c next count turn = MatchTurn turn (λ more. guest_left more next count < guest_left w c count) (λ _. 0 < guest_left w c count) (λ _ _. 0 < guest_left w c count)

-- ---- what is known

-- What a write knows that began in the folder `start`, whose volumes were `old`, with this in the room.
pub record Knows (w : GuestWrite) (c : Chain) (l : Laying) (x : VolumeRecord) (old : Volumes) (host : ℕ) (start : Folder) (room : List ℕ) (d : Content) : Type 0 where
  pub of : IsWriteOf w.volume w.at l old
  pub stage : KnowsStage w.stage c l x old host start room d

-- A write that was begun. It may go on with each chain in which its volume stands open, and knows each image that may be written
-- and has the part in this volume.
pub record IsBegun (v : Id) (at : ℕ) (w : GuestWrite) : Type 0 where
  pub volume : volume_of w ≡ v
  pub from : at_of w ≡ at
  pub way : (c : Chain) (count : ℕ) → StandsOpen c v at count → IsOnWay w c count
  pub left : (c : Chain) (count : ℕ) → guest_left w c count ≡ begins_at c v at count
  pub knows : (c : Chain) (l : Laying) (x : VolumeRecord) (host : ℕ) (room : List ℕ) (d : Content) → l.volume ≡ v → 512 * l.part.at ≡ at → IsPartOf l c x → MayBeWritten c host d → IsBelow l.records l.volume l.below
      → Reads l l.reads (volumes_in (dir_in (target_of c)) d) → Knows w c l x (volumes_in (dir_in (target_of c)) d) host (folder_of (dir_in (target_of c)) d) room d

-- ---- what a step leaves

-- No folder and no file but the volume's is changed, and each outcome comes from one of the begin, after a step that failed too. Where
-- it goes on the write knows the image as it is; at `Done` the part is on the medium and the next write may begin; and it is refused
-- by the disk's fault or for want of room, which changes nothing.
pub record GuestLeaves (c next : Chain) (l : Laying) (x : VolumeRecord) (old : Volumes) (host faults : ℕ) (start : Folder) (room : List ℕ) (turn : GuestTurn) (d e : Content) : Type 0 where
  pub leaves : Leaves c l start d e
  pub after : MatchTurn turn
      (λ more. Knows more next l x old host start room e)
      (λ _. IsDone next l host e)
      (λ _ refusal. IsRefused c next l host faults refusal d e)

abbrev pub GuestWrites : GuestWrite → Chain → Chain → ℕ → ℕ → List ℕ → List ℕ → List ℕ → GuestTurn → Content → Content → Type 0
GuestWrites w c next host faults part before after turn d e = (l : Laying) (x : VolumeRecord) (old : Volumes) (start : Folder) → Knows w c l x old host start before d → l.part.bytes ≡ part
    → GuestLeaves c next l x old host faults start after turn d e
