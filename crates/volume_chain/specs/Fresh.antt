-- The chain of an image of one volume that is made anew, and its files once they are made.
use Rattle.std.specs.Prelude.{◌≡◌, ℕ, ◌*◌, ◌^◌, ◌≤◌, true, [], ◌∷◌, Some, None, Ok}
use Rattle.sd_names.specs.Id.{zero_id}
use Rattle.sd_names.specs.declared.id.Id.{Id}
use Rattle.sd_names.specs.declared.kinds.Format.{Format}
use Rattle.sd_names.specs.declared.kinds.Format.TheVariants as format
use Rattle.sd_names.specs.declared.kinds.Legality.TheVariants as legality
use Rattle.shared_disk.specs.Content.{Content, File}
use Rattle.volume_meta.specs.Valid.{IsValid}
use Rattle.volume_meta.specs.declared.record.VolumeRecord.{VolumeRecord}
use Rattle.layer_creating.specs.New.{IsCapacity, IsLength, IsNewLayer}
use Rattle.qcow_layer.specs.Fresh.{IsFresh}
use Rattle.chain_model.specs.Records.{is_volume, text_of}
use Rattle.chain_gathering.specs.Knowing.{volumes_in}
use Rattle.volume_chain.specs.Chain.{dir_in, image_in, open_in, path_in, place_in, records_kept, target_of}
use Rattle.volume_chain.specs.declared.chain.Chain.{Chain}
use Rattle.volume_chain.specs.declared.chain.Target.{Target}
use Rattle.volume_chain.specs.declared.volumes.OpenVolume.{OpenVolume}
use Rattle.volume_chain.specs.declared.volumes.OpenVolume.TheVariants.{Raw, Cow}

-- a valid record of a LEGAL volume without a parent
pub record IsBase (x : VolumeRecord) : Type 0 where
  pub valid : IsValid x
  pub legal : x.legality ≡ legality.Legal
  pub parent : x.parent ≡ zero_id

-- the length of its file, in bytes: a layer's is as `Creating` makes it
abbrev pub IsLengthOf : Format → VolumeRecord → ℕ → Type 0
IsLengthOf format.Raw x bytes = Unit {0}
IsLengthOf format.Cow x bytes = IsCapacity x.capacity × IsLength bytes

abbrev pub IsBaseLength : VolumeRecord → ℕ → Type 0
IsBaseLength x bytes = IsLengthOf x.format x bytes

abbrev pub target_for : Id → Id → ℕ → Target
target_for sd image version = record { sd = sd; image = image; version = version }

-- the volume, open: raw and so long, or the layer of the new file
abbrev pub IsFreshVolume : Target → Id → VolumeRecord → ℕ → OpenVolume → Type 0
IsFreshVolume t v x bytes (Raw n) = (x.format ≡ format.Raw) × (n ≡ bytes)
IsFreshVolume t v x bytes (Cow layer) = (x.format ≡ format.Cow) × IsFresh layer v (place_in t v) x.capacity (2 ^ 40) None bytes

-- the chain of one volume with this record, which is its path
pub record IsFreshChain (c : Chain) (sd id : Id) (version : ℕ) (v : Id) (x : VolumeRecord) (bytes : ℕ) : Type 0 where
  pub target : target_of c ≡ target_for sd id version
  pub records : records_kept c ≡ record { id = v; meta = x; has_file = true } ∷ []
  pub path : path_in c ≡ v ∷ []
  pub volume : OpenVolume
  pub only : open_in c ≡ volume ∷ []
  pub fresh : IsFreshVolume (target_for sd id version) v x bytes volume

-- the file of the volume, once it is made: so long at least, or the new layer's
abbrev pub IsMadeFile : Format → VolumeRecord → ℕ → File → Type 0
IsMadeFile format.Raw x bytes f = bytes ≤ 512 * f.size
IsMadeFile format.Cow x bytes f = IsNewLayer x.capacity None bytes f

-- The image's folder once both files are made: the text reads as the record, the file is there, and there is no text of
-- another volume.
pub record IsMade (t : Target) (v : Id) (x : VolumeRecord) (bytes : ℕ) (d : Content) : Type 0 where
  pub text : text_of (image_in t) (volumes_in (dir_in t) d) v ≡ Some (Ok x)
  pub only : (u : Id) → is_volume (volumes_in (dir_in t) d) u ≡ true → u ≡ v
  pub file : File
  pub there : d.file (place_in t v) ≡ Some file
  pub made : IsMadeFile x.format x bytes file
