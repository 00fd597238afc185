-- What volumes read as by the names in the headers of their layers.
use Rattle.std.specs.Prelude.{◌≡◌, ℕ, List, [], ◌∷◌, Option, Some, None, Result, Ok, Err}
use Rattle.sd_names.specs.declared.fault.LayerFault.{LayerFault}
use Rattle.sd_names.specs.declared.id.Id.{Id}
use Rattle.sd_names.specs.declared.kinds.Format.{Format}
use Rattle.sd_names.specs.declared.kinds.Format.TheVariants.{Raw, Cow}
use Rattle.shared_disk.specs.Content.{File}
use Rattle.qcow_format.specs.Name.{backing_id}
use Rattle.qcow_format.specs.declared.header.Header.{Header}
use Rattle.volume_meta.specs.declared.record.VolumeRecord.{VolumeRecord}
use Rattle.image_model.specs.File.{file_of}
use Rattle.chain_model.specs.Folder.{Volumes}
use Rattle.chain_model.specs.Records.{Records}
use Rattle.chain_model.specs.Own.{header_in}
use Rattle.chain_model.specs.Flat.{first_of}

abbrev pub backing_by : File → Result Header LayerFault → Option Id
backing_by f (Ok h) = backing_id h (file_of f.size f.stable).head
backing_by f (Err fault) = None

-- the volume that a layer's header names as its backing file; a raw volume names none
abbrev pub backing_in : Format → VolumeRecord → File → Option Id
backing_in Raw x f = None
backing_in Cow x f = backing_by f (header_in x f)

abbrev pub backing_by_record : Option VolumeRecord → Option File → Option Id
backing_by_record None file = None
backing_by_record (Some x) None = None
backing_by_record (Some x) (Some f) = backing_in x.format x f

abbrev pub backing : Records → Volumes → Id → Option Id
backing r x v = backing_by_record (r v) (x.file v)

-- the path that the headers' names give: each volume's backing file, which has to be there, up to one that names none
abbrev pub IsBacked : Records → Volumes → Id → List Id → Type 0
IsBacked r x v [] = backing r x v ≡ None
IsBacked r x v (w ∷ ws) = (backing r x v ≡ Some w) × ((f : File) × (x.file w ≡ Some f)) × IsBacked r x w ws

-- a sector as a volume reads by the headers
abbrev pub flat_by_headers : Records → Volumes → Id → List Id → ℕ → List ℕ
flat_by_headers r x v vs k = first_of r x (v ∷ vs) k

-- each header of a path names the volume that comes next on it, and the last one none
abbrev pub NameNext : Records → Volumes → List Id → Type 0
NameNext r x [] = Unit {0}
NameNext r x (v ∷ []) = backing r x v ≡ None
NameNext r x (v ∷ w ∷ ws) = (backing r x v ≡ Some w) × NameNext r x (w ∷ ws)
