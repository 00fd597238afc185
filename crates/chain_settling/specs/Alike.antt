-- An image that reads alike while it is settled, and what is known of it.
use Rattle.std.specs.Prelude.{◌≡◌, ◌≢◌, ◌⊎◌, ℕ, true, Option, Some, None}
use Rattle.sd_names.specs.declared.id.Id.{Id}
use Rattle.sd_names.specs.declared.place.Dir.{Dir}
use Rattle.sd_names.specs.declared.kinds.Format.TheVariants.{Cow}
use Rattle.shared_disk.specs.Content.{Content, File}
use Rattle.shared_disk.specs.Crash.{IsAlso, IsSettled, OnEach}
use Rattle.qcow_layer.specs.Opening.{target_kept, volume_kept}
use Rattle.qcow_layer.specs.declared.layer.Layer.{Layer}
use Rattle.qcow_layer.specs.declared.stages.Target.{Target}
use Rattle.volume_meta.specs.declared.record.VolumeRecord.{VolumeRecord}
use Rattle.volume_texts.specs.Legible.{IsLegible}
use Rattle.chain_model.specs.Folder.{Volumes}
use Rattle.chain_model.specs.Own.{own_by}
use Rattle.chain_model.specs.Records.{Image, Records, is_legal, records_of}
use Rattle.chain_gathering.specs.Knowing.{volumes_in}
use Rattle.chain_records.specs.Paths.{HasChain}
use Rattle.chain_records.specs.Records.{records_in}
use Rattle.chain_records.specs.Settling.{ArePartlyRewritten}
use Rattle.volume_chain.specs.Chain.{records_kept}
use Rattle.volume_chain.specs.declared.chain.Chain.{Chain}
use Rattle.chain_settling.specs.Reopening.{OpensAlike}
use Rattle.chain_settling.specs.Was.{AreLeftAlone, WasOpen, file_in, folder_in, image_kept, text_in}
use Rattle.chain_settling.specs.Work.{IsLayerAt, IsRightType}

-- a second file of a volume holds what the first one holds
abbrev pub HoldsAlike : Option VolumeRecord → File → File → Type 0
HoldsAlike o f g = (k : ℕ) → own_by o (Some g) k ≡ own_by o (Some f) k

-- A VOLTYPE is as it was or, of a LEGAL volume, the one that it has to have. So an ILLEGAL volume keeps its own.
abbrev pub HasTypeOf : Records → Id → Option VolumeRecord → Type 0
HasTypeOf r v o = (x y : VolumeRecord) → r v ≡ Some x → o ≡ Some y → (y.voltype ≡ x.voltype) ⊎ ((is_legal r v ≡ true) × IsRightType r v y.voltype)

-- Of an image with these records and files: each text is there whole, as it was or with a parent that was rewritten to the one
-- that counts, or with the VOLTYPE that it has to have; and each volume's file holds what it held, whatever crashes leave.
pub record ReadsAlike (i : Image) (dir : Dir) (r : Records) (x : Volumes) (d : Content) : Type 0 where
  pub texts : (v : Id) → IsAlso (λ f g. IsSettled g) (x.text v) (d.file (text_in dir v))
  pub partly : ArePartlyRewritten r (records_of i (volumes_in dir d))
  pub types : (v : Id) → HasTypeOf r v (records_of i (volumes_in dir d) v)
  pub files : (v : Id) → IsAlso (λ f g. OnEach g (HoldsAlike (r v) f)) (x.file v) (d.file (file_in dir v))

-- a layer is that of a record of its capacity
abbrev pub IsCowOf : Target → Option VolumeRecord → Type 0
IsCowOf t None = Unit {0}
IsCowOf t (Some y) = (y.format ≡ Cow) × (y.capacity ≡ t.capacity)

abbrev pub IsCow : Layer → Option VolumeRecord → Type 0
IsCow l o = IsCowOf (target_kept l) o

-- the record is one of the image, and its text reads as it
pub record IsOfImage (i : Image) (y : VolumeRecord) : Type 0 where
  pub domain : y.domain ≡ i.domain
  pub id : y.image ≡ i.id
  pub legible : IsLegible y

-- What is known of an image in each stage: it reads and opens alike, and the records that are kept are its old ones, partly rewritten,
-- each of which had its text. The layers of the path are those of records of their capacities, and the files of other volumes
-- are left alone.
pub record KnowsImage (c : Chain) (r : Records) (x : Volumes) (d : Content) : Type 0 where
  pub folder : d.dir (folder_in c) ≡ true
  pub chains : (v : Id) → HasChain r v
  pub alike : ReadsAlike (image_kept c) (folder_in c) r x d
  pub opens : OpensAlike (image_kept c) (folder_in c) r x d
  pub partly : ArePartlyRewritten r (records_in (records_kept c))
  pub types : (v : Id) → HasTypeOf r v (records_in (records_kept c) v)
  pub kept : (v : Id) (y : VolumeRecord) → records_in (records_kept c) v ≡ Some y → (f : File) × (x.text v ≡ Some f)
  pub legible : (v : Id) (y : VolumeRecord) → records_in (records_kept c) v ≡ Some y → IsOfImage (image_kept c) y
  pub cows : (b : ℕ) (l : Layer) → IsLayerAt c b l → IsCow l (r (volume_kept l))
  pub was : WasOpen c r x
  pub alone : AreLeftAlone c x d

-- each text says what is kept of it: those of all volumes, or of all but one
abbrev pub IsSaid : Chain → Content → Id → Type 0
IsSaid c d v = records_of (image_kept c) (volumes_in (folder_in c) d) v ≡ records_in (records_kept c) v

abbrev pub AreSaid : Chain → Content → Type 0
AreSaid c d = (v : Id) → IsSaid c d v

abbrev pub AreSaidBut : Chain → Id → Content → Type 0
AreSaidBut c but d = (v : Id) → v ≢ but → IsSaid c d v
