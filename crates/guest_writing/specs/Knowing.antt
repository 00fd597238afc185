-- What is known of an image that may be written, and of the write between its steps.
use Rattle.std.specs.Prelude.{◌≡◌, ◌≢◌, ℕ, ◌+◌, ◌*◌, ◌%◌, ◌^◌, List, slice_get, Some}
use Rattle.sd_names.specs.declared.id.Id.{Id}
use Rattle.shared_disk.specs.Content.{Content, File}
use Rattle.volume_meta.specs.declared.record.VolumeRecord.{VolumeRecord}
use Rattle.qcow_layer.specs.Opening.{header_kept, place_kept}
use Rattle.qcow_layer.specs.declared.layer.Layer.{Layer}
use Rattle.layer_heading.specs.Writing.{IsQuiet}
use Rattle.chain_model.specs.Chain.{IsBelow}
use Rattle.chain_model.specs.Folder.{Folder, Volumes, folder_of}
use Rattle.chain_laws.specs.Laid.{Laying, Reads}
use Rattle.chain_gathering.specs.Knowing.{AreSettled, volumes_in}
use Rattle.volume_chain.specs.Chain.{dir_in, open_in, path_in, target_of}
use Rattle.volume_chain.specs.Knowing.{KnowsChain}
use Rattle.volume_chain.specs.declared.chain.Chain.{Chain}
use Rattle.volume_chain.specs.declared.volumes.OpenVolume.TheVariants as volume
use Rattle.chain_reading.specs.Knowing.{KnowsImage}
use Rattle.raw_writing.specs.Image.{IsPartOf}
use Rattle.raw_writing.specs.Writing as raw
use Rattle.raw_writing.specs.declared.writing.RawWriting.{RawWriting}
use Rattle.guest_laws.specs.Write.{KnowsWrite}
use Rattle.write_preparing.specs.Preparing as preparing
use Rattle.write_preparing.specs.declared.preparing.Preparing as preparings
use Rattle.write_filling.specs.Filling as filling
use Rattle.write_filling.specs.Filling.{HoldsSince}
use Rattle.write_filling.specs.declared.fillings.Fillings.{Fillings}
use Rattle.write_linking.specs.Linking as linking
use Rattle.write_linking.specs.declared.linking.WriteLinking.{WriteLinking}
use Rattle.guest_writing.specs.declared.stage.Stage.{Stage}
use Rattle.guest_writing.specs.declared.stage.Stage.TheVariants.{Begun, Raw, Preparing, Filling, Linking}

-- ---- an image that may be written

-- each layer of the path knows its file, in which nothing is unsynced: it is of whole clusters
abbrev pub AreQuiet : Chain → ℕ → Content → Type 0
AreQuiet c host d = (k : ℕ) (w : Layer) (f : File) → slice_get (open_in c) k ≡ Some (volume.Cow w) → d.file (place_kept w) ≡ Some f → IsQuiet w host f

-- so it is of all but the volume with this index
abbrev pub AreQuietBut : Chain → ℕ → ℕ → Content → Type 0
AreQuietBut c index host d = (k : ℕ) (w : Layer) (f : File) → k ≢ index → slice_get (open_in c) k ≡ Some (volume.Cow w) → d.file (place_kept w) ≡ Some f → IsQuiet w host f

-- the files of the path's layers are of whole clusters
abbrev pub AreWhole : Chain → Content → Type 0
AreWhole c d = (k : ℕ) (w : Layer) (f : File) → slice_get (open_in c) k ≡ Some (volume.Cow w) → d.file (place_kept w) ≡ Some f → 512 * f.size % 2 ^ (header_kept w).cluster_bits ≡ 0

-- The chain knows the image, in which nothing is unsynced: the next write may begin.
pub record MayBeWritten (c : Chain) (host : ℕ) (d : Content) : Type 0 where
  pub chain : KnowsChain c host d
  pub settled : AreSettled (dir_in (target_of c)) d
  pub quiet : AreQuiet c host d

-- ---- between the steps

-- the part is laid over this volume from this byte on, and the volume reads as it is said in the files as they were at the begin
pub record IsWriteOf (v : Id) (at : ℕ) (l : Laying) (old : Volumes) : Type 0 where
  pub volume : v ≡ l.volume
  pub from : at ≡ 512 * l.part.at
  pub below : IsBelow l.records l.volume l.below
  pub reads : Reads l l.reads old

-- nothing has happened yet
pub record KnowsBegun (c : Chain) (l : Laying) (x : VolumeRecord) (old : Volumes) (host : ℕ) (start : Folder) (d : Content) : Type 0 where
  pub of : IsPartOf l c x
  pub may : MayBeWritten c host d
  pub files : old ≡ volumes_in (dir_in (target_of c)) d
  pub folder : start ≡ folder_of (dir_in (target_of c)) d

pub record KnowsRaw (w : RawWriting) (c : Chain) (l : Laying) (x : VolumeRecord) (host : ℕ) (start : Folder) (d : Content) : Type 0 where
  pub index : ℕ
  pub path : slice_get (path_in c) index ≡ Some l.volume
  pub bytes : ℕ
  pub opened : slice_get (open_in c) index ≡ Some (volume.Raw bytes)
  pub write : raw.Knows w c l x host start d
  pub quiet : AreQuietBut c index host d

-- The volume holds since the begin what it held then, or more of the part, and those below it can be read.
pub record KnowsPreparing (index : ℕ) (p : preparings.Preparing) (c : Chain) (l : Laying) (x : VolumeRecord) (old : Volumes) (host : ℕ) (start : Folder) (d : Content) : Type 0 where
  pub layer : Layer
  pub file : File
  pub write : KnowsWrite c index layer l x host start file d
  pub quiet : AreQuietBut c index host d
  pub work : preparing.Knows p layer l x host file
  pub since : HoldsSince l x old file
  pub below : (u : Id) → slice_get (path_in c) (index + 1) ≡ Some u → KnowsImage c u host old d

pub record KnowsFilling (index : ℕ) (s : Fillings) (c : Chain) (l : Laying) (x : VolumeRecord) (old : Volumes) (host : ℕ) (start : Folder) (room : List ℕ) (d : Content) : Type 0 where
  pub layer : Layer
  pub file : File
  pub write : KnowsWrite c index layer l x host start file d
  pub quiet : AreQuietBut c index host d
  pub work : filling.Knows s c layer l x old host room file d

-- `begun` is the file as it was before it was synced
pub record KnowsLinking (index : ℕ) (s : WriteLinking) (c : Chain) (l : Laying) (x : VolumeRecord) (host : ℕ) (start : Folder) (d : Content) : Type 0 where
  pub layer : Layer
  pub file : File
  pub write : KnowsWrite c index layer l x host start file d
  pub quiet : AreQuietBut c index host d
  pub begun : File
  pub work : linking.Knows s layer l x host begun file

abbrev pub KnowsStage : Stage → Chain → Laying → VolumeRecord → Volumes → ℕ → Folder → List ℕ → Content → Type 0
KnowsStage Begun c l x old host start room d = KnowsBegun c l x old host start d
KnowsStage (Raw w) c l x old host start room d = KnowsRaw w c l x host start d
KnowsStage (Preparing i p) c l x old host start room d = KnowsPreparing i p c l x old host start d
KnowsStage (Filling i s) c l x old host start room d = KnowsFilling i s c l x old host start room d
KnowsStage (Linking i s) c l x old host start room d = KnowsLinking i s c l x host start d
