-- What a step of a write leaves of the disk.
use Rattle.std.specs.Prelude.{◌≡◌, ◌⊎◌, ℕ, ◌+◌, ◌*◌, ◌<◌, List, length, slice_get, Some}
use Rattle.sd_names.specs.Turn.{MatchTurn}
use Rattle.sd_names.specs.declared.id.Id.{Id}
use Rattle.sd_names.specs.declared.refusal.Refusal.{Refusal}
use Rattle.sd_names.specs.declared.refusal.Refusal.TheVariants.{DiskFault, NoRoom}
use Rattle.shared_disk.specs.Calls.{IsSame, sectors_in}
use Rattle.shared_disk.specs.Content.{Content, File}
use Rattle.image_model.specs.Room.{Need, room_of}
use Rattle.volume_meta.specs.declared.record.VolumeRecord.{VolumeRecord}
use Rattle.qcow_layer.specs.Opening.{place_kept}
use Rattle.qcow_layer.specs.declared.layer.Layer.{Layer}
use Rattle.layer_writing.specs.Writer.{seen_tables}
use Rattle.layer_placing.specs.Chosen.{IsShort}
use Rattle.chain_model.specs.Folder.{Folder, Volumes, folder_of}
use Rattle.chain_laws.specs.Laid.{Laying}
use Rattle.chain_laws.specs.Written.{ComesWritten}
use Rattle.volume_chain.specs.Chain.{dir_in, open_in, path_in, place_in, target_of}
use Rattle.volume_chain.specs.declared.chain.Chain.{Chain}
use Rattle.volume_chain.specs.declared.volumes.OpenVolume.TheVariants.{Cow}
use Rattle.raw_writing.specs.Image.{IsOnMedium, OnlyChanges}
use Rattle.write_planning.specs.Span.{at_of, count_of, first_of, length_of}
use Rattle.write_planning.specs.declared.span.Span.{Span}
use Rattle.guest_writing.specs.Knowing.{AreQuiet, IsWriteOf, KnowsStage, MayBeWritten}
use Rattle.guest_writing.specs.Way.{StageTurn}
use Rattle.guest_writing.specs.declared.stage.Stage.{Stage}

-- the part ends past a raw volume's file
pub record IsRawShort (c : Chain) (l : Laying) (room wanted : ℕ) (d : Content) : Type 0 where
  pub file : File
  pub there : d.file (place_in (target_of c) l.volume) ≡ Some file
  pub short : file.size < l.part.at + sectors_in l.part.bytes
  pub room_is : room ≡ 512 * file.size
  pub wanted_is : wanted ≡ 512 * l.part.at + length l.part.bytes

-- fewer clusters of the file of the volume's layer are free than the write of the part needs
pub record IsLayerShort (c : Chain) (l : Laying) (host room wanted : ℕ) (d : Content) : Type 0 where
  pub index : ℕ
  pub layer : Layer
  pub path : slice_get (path_in c) index ≡ Some l.volume
  pub opened : slice_get (open_in c) index ≡ Some (Cow layer)
  pub file : File
  pub there : d.file (place_kept layer) ≡ Some file
  pub span : Span
  pub at : at_of span ≡ 512 * l.part.at
  pub length_is : length_of span ≡ length l.part.bytes
  pub short : IsShort layer (room_of (seen_tables layer host file)) (Need (room_of (seen_tables layer host file)) (first_of span) (first_of span + count_of span)) room wanted

-- Want of room: the refusal says what is there and what is wanted. Nothing is changed, and the image may be written as before.
pub record LacksRoom (c next : Chain) (l : Laying) (host : ℕ) (refusal : Refusal) (d e : Content) : Type 0 where
  pub room : ℕ
  pub wanted : ℕ
  pub says : refusal ≡ NoRoom l.volume room wanted
  pub short : IsRawShort c l room wanted d ⊎ IsLayerShort c l host room wanted d
  pub same : IsSame d e
  pub may : MayBeWritten next host e

-- What a step leaves, one that failed too: no folder and no file but the volume's is changed, and each outcome of the folder comes
-- from one of the begin, over which sectors of the part may be laid.
pub record Leaves (c : Chain) (l : Laying) (start : Folder) (d e : Content) : Type 0 where
  pub only : OnlyChanges (place_in (target_of c) l.volume) d e
  pub comes : ComesWritten l start (folder_of (dir_in (target_of c)) e)

abbrev pub IsDone : Chain → Laying → ℕ → Content → Type 0
IsDone next l host e = IsOnMedium next l host e × AreQuiet next host e

abbrev pub IsRefused : Chain → Chain → Laying → ℕ → ℕ → Refusal → Content → Content → Type 0
IsRefused c next l host faults refusal d e = (refusal ≡ DiskFault faults) ⊎ LacksRoom c next l host refusal d e

pub record Writes (c next : Chain) (l : Laying) (x : VolumeRecord) (old : Volumes) (host faults : ℕ) (start : Folder) (room : List ℕ) (turn : StageTurn) (d e : Content) : Type 0 where
  pub leaves : Leaves c l start d e
  pub after : MatchTurn turn
      (λ s. KnowsStage s next l x old host start room e)
      (λ _. IsDone next l host e)
      (λ _ refusal. IsRefused c next l host faults refusal d e)

abbrev pub WritesIn : Stage → Id → ℕ → Chain → Chain → ℕ → ℕ → List ℕ → List ℕ → List ℕ → StageTurn → Content → Content → Type 0
WritesIn stage v at c next host faults part before after turn d e = (l : Laying) (x : VolumeRecord) (old : Volumes) (start : Folder) → IsWriteOf v at l old → KnowsStage stage c l x old host start before d → l.part.bytes ≡ part
    → Writes c next l x old host faults start after turn d e

-- what is known in the first stage is known in one behind it
abbrev pub KnowsBehind : Stage → Id → ℕ → Chain → List ℕ → Stage → Type 0
KnowsBehind stage v at c part next = (l : Laying) (x : VolumeRecord) (old : Volumes) (host : ℕ) (start : Folder) (room : List ℕ) (d : Content) → IsWriteOf v at l old → KnowsStage stage c l x old host start room d → l.part.bytes ≡ part
    → KnowsStage next c l x old host start room d
