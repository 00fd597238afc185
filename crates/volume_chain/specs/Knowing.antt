-- What is known of the image while its chain is opened, and once it is open.
use Rattle.std.specs.Prelude.{◌≡◌, ℕ, ◌+◌, ◌*◌, ◌^◌, ◌<◌, ◌≤◌, List, [], length, drop, Contains, Some}
use Rattle.sd_names.specs.declared.id.Id.{Id}
use Rattle.sd_names.specs.declared.kinds.Format.TheVariants as format
use Rattle.sd_names.specs.declared.place.Name.TheVariants as name
use Rattle.sd_names.specs.declared.refusal.Refusal.{Refusal}
use Rattle.shared_disk.specs.Content.{Content, File}
use Rattle.shared_disk.specs.Crash.{IsAlone}
use Rattle.shared_disk.specs.NameCalls as names
use Rattle.volume_meta.specs.declared.record.VolumeRecord.{VolumeRecord}
use Rattle.qcow_layer.specs.Knowing.{KnowsLayerOn}
use Rattle.qcow_layer.specs.Opening as layer
use Rattle.qcow_layer.specs.declared.opening.Opening.{Opening}
use Rattle.chain_model.specs.Folder.{Volumes}
use Rattle.chain_model.specs.Growth.{AreLonger}
use Rattle.chain_model.specs.Opening.{IsBadLayer, IsBadName}
use Rattle.chain_model.specs.Records.{Image, records_of}
use Rattle.chain_records.specs.Records.{records_in}
use Rattle.chain_records.specs.Shown.{IsShown}
use Rattle.chain_gathering.specs.Gathering as gather
use Rattle.chain_gathering.specs.declared.gathering.Gathering as gathering
use Rattle.chain_gathering.specs.Knowing.{AreSettled, volumes_in}
use Rattle.volume_chain.specs.Chain.{OnPath, IsShaped, dir_in, image_in, layer_of, next_of, place_in}
use Rattle.volume_chain.specs.declared.chain.Chain.{Chain}
use Rattle.volume_chain.specs.declared.chain.Target.{Target}
use Rattle.volume_chain.specs.declared.stages.Stage.{Stage}
use Rattle.volume_chain.specs.declared.stages.Stage.TheVariants.{Gathering, Along, Layer}
use Rattle.volume_chain.specs.declared.volumes.OpenVolume.{OpenVolume}
use Rattle.volume_chain.specs.declared.volumes.OpenVolume.TheVariants.{Raw, Cow}

-- each volume file has a length that 64 bits can hold
abbrev pub HaveLengths : Target → Content → Type 0
HaveLengths t d = (v : Id) (f : File) → d.file (place_in t v) ≡ Some f → 512 * f.size < 2 ^ 64

-- ---- once the chain is open

-- A raw volume's file is as long as it was, or longer; a layer knows its file.
abbrev pub IsKnown : Target → ℕ → Content → Id → OpenVolume → Type 0
IsKnown t host d v (Raw length) = (f : File) × (d.file (place_in t v) ≡ Some f) × (length ≤ 512 * f.size)
IsKnown t host d v (Cow layer) = KnowsLayerOn layer host d

abbrev pub AreKnown : Target → ℕ → Content → List Id → List OpenVolume → Type 0
AreKnown t host d path os = OnPath (IsKnown t host d) path os

-- What a chain knows of its image: the records are those of the texts, each volume has its file, the path is that of the
-- reading volume, and each volume of it is open as its record says.
pub record KnowsChain (c : Chain) (host : ℕ) (d : Content) : Type 0 where
  pub shown : IsShown (image_in c.target) (volumes_in (dir_in c.target) d) c.records
  pub shape : IsShaped c
  pub all : length c.volumes ≡ length c.path
  pub known : AreKnown c.target host d c.path c.volumes

-- no other host has anything unsynced in a volume's text
abbrev pub AreAloneTexts : Target → ℕ → Content → Type 0
AreAloneTexts t host d = (v : Id) (f : File) → d.file (names.place_in (dir_in t) (name.Meta v)) ≡ Some f → IsAlone host f

-- ---- while it is opened

-- A volume that is open: a raw one's length is that of its file, or neither its layer nor its header's name is refused. The
-- files are those as long as they were when their lengths were asked.
abbrev pub IsPassed : Image → Volumes → Id → OpenVolume → Type 0
IsPassed i x v (Raw length) = (f : File) × (x.file v ≡ Some f) × (length ≡ 512 * f.size)
IsPassed i x v (Cow layer) = ((e : Refusal) → IsBadLayer x (records_of i x) v e → ⊥) × ((e : Refusal) → IsBadName x (records_of i x) v e → ⊥)

abbrev pub ArePassed : Image → Volumes → List Id → List OpenVolume → Type 0
ArePassed i x path os = OnPath (IsPassed i x) path os

-- The records are those of the image's texts, and the first volumes of the path are open. `x` has each file as long as it was
-- when its length was asked; that of those in `rest` wasn't.
pub record KnowsPath (c : Chain) (host : ℕ) (x : Volumes) (rest : List Id) (d : Content) : Type 0 where
  pub settled : AreSettled (dir_in c.target) d
  pub lengths : HaveLengths c.target d
  pub shown : IsShown (image_in c.target) x c.records
  pub longer : AreLonger x (volumes_in (dir_in c.target) d)
  pub same : (v : Id) → Contains rest v → d.file (place_in c.target v) ≡ x.file v
  pub shape : IsShaped c
  pub passed : ArePassed (image_in c.target) x c.path c.volumes
  pub known : AreKnown c.target host d c.path c.volumes

-- The layer that is opened is that of the path's next volume, as its record says.
pub record IsNextLayer (c : Chain) (o : Opening) : Type 0 where
  pub volume : Id
  pub next : next_of c ≡ Some volume
  pub says : VolumeRecord
  pub is : records_in c.records volume ≡ Some says
  pub cow : says.format ≡ format.Cow
  pub target : layer.target_of o ≡ layer_of c.target volume says

-- the opening of that layer knows the file, as long as it was when its length was asked
abbrev pub KnowsLayerFile : Opening → ℕ → Volumes → Content → Type 0
KnowsLayerFile o host x d = (f : File) × (x.file (layer.target_of o).volume ≡ Some f) × layer.KnowsFile o host f.size f.stable d

-- ---- what holds in each stage, whatever the disk tells

-- what is gathered is this image, and each record that was read is valid
pub record IsOfImage (t : Target) (g : gathering.Gathering) : Type 0 where
  pub image : gather.image g ≡ image_in t
  pub folder : gather.folder g ≡ dir_in t
  pub valid : gather.HasValidRecords g

abbrev pub StageShaped : Stage → Type 0
StageShaped (Gathering t volumes g) = IsOfImage t g × gather.IsInOrder g × (volumes ≡ [])
StageShaped (Along c) = IsShaped c
StageShaped (Layer c o) = IsShaped c × IsNextLayer c o × layer.OpensInside o

-- what is known in each stage
abbrev pub StageKnows : Stage → ℕ → Volumes → Content → Type 0
StageKnows (Gathering t volumes g) host x d = gather.Knows g host d × HaveLengths t d × IsOfImage t g × (volumes ≡ [])
StageKnows (Along c) host x d = KnowsPath c host x (drop (length c.volumes) c.path) d
StageKnows (Layer c o) host x d = KnowsPath c host x (drop (length c.volumes + 1) c.path) d × IsNextLayer c o × KnowsLayerFile o host x d
