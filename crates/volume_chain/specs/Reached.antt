-- Where an opening may want for memory: no check before refuses.
use Rattle.std.specs.Prelude.{◌≡◌, List, ◌∷◌, ◌++◌, Contains, Some, Ok}
use Rattle.sd_names.specs.declared.id.Id.{Id}
use Rattle.sd_names.specs.declared.refusal.Refusal.{Refusal}
use Rattle.sd_names.specs.declared.refusal.Refusal.TheVariants.{OutOfMemory}
use Rattle.shared_disk.specs.Content.{File}
use Rattle.volume_meta.specs.declared.record.VolumeRecord.{VolumeRecord}
use Rattle.qcow_format.specs.declared.header.Header.{Header}
use Rattle.image_model.specs.File.{file_of}
use Rattle.image_model.specs.Soundness.{layer_header}
use Rattle.chain_model.specs.Folder.{Volumes}
use Rattle.chain_model.specs.Opening.{AreVolumes, Check, IsOpenPath, Refuses, checks, layer, text}
use Rattle.chain_model.specs.Records.{Image, records_of, text_of}

-- a check of the image's opening that is come to: none of those before it refuses
pub record IsReached (i : Image) (x : Volumes) (c : Check) : Type 0 where
  pub volumes : List Id
  pub path : List Id
  pub are : AreVolumes x volumes
  pub opened : IsOpenPath (records_of i x) path
  pub before : List Check
  pub behind : List Check
  pub order : checks volumes path ≡ before ++ c ∷ behind
  pub passes : (b : Check) → Contains before b → (e : Refusal) → Refuses i x volumes b e → ⊥

-- what takes memory: the record of a text that has no fault, and the map of a layer whose header has none
abbrev pub TakesMemory : Image → Volumes → Check → Type 0
TakesMemory i x (text v) = (y : VolumeRecord) × (text_of i x v ≡ Some (Ok y))
TakesMemory i x (layer v) =
    (y : VolumeRecord) × (records_of i x v ≡ Some y) × (f : File) × (x.file v ≡ Some f) × (h : Header) × (layer_header (file_of f.size f.stable) y.capacity ≡ Ok h)
TakesMemory i x _ = ⊥

-- there was no memory for it, once each check before had passed
abbrev pub LacksMemory : Image → Volumes → Refusal → Type 0
LacksMemory i x e = (e ≡ OutOfMemory) × (c : Check) × IsReached i x c × TakesMemory i x c
