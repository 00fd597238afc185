-- What settling does to each volume, by the chain as it is kept.
use Rattle.std.specs.Prelude.{◌≡◌, ◌≢◌, ◌⊎◌, ℕ, ◌<◌, ◌≤◌, true, length, slice_get, Option, Some, None}
use Rattle.sd_names.specs.declared.id.Id.{Id}
use Rattle.sd_names.specs.declared.kinds.VolType.{VolType}
use Rattle.sd_names.specs.declared.kinds.VolType.TheVariants as voltype
use Rattle.volume_meta.specs.declared.record.VolumeRecord.{VolumeRecord}
use Rattle.layer_creating.specs.declared.backing.Backing.{Backing}
use Rattle.qcow_layer.specs.Opening.{parent_kept, volume_kept}
use Rattle.qcow_layer.specs.declared.layer.Layer.{Layer}
use Rattle.chain_model.specs.Records.{Records, is_legal}
use Rattle.chain_records.specs.Records.{records_in}
use Rattle.chain_records.specs.Rewriting.{naming, typed}
use Rattle.chain_records.specs.Settling.{HasPassedParent, IsNamed, IsOver}
use Rattle.chain_records.specs.declared.volume.Volume.{Volume}
use Rattle.volume_chain.specs.Chain.{open_in, records_kept}
use Rattle.volume_chain.specs.declared.chain.Chain.{Chain}
use Rattle.volume_chain.specs.declared.volumes.OpenVolume.{OpenVolume}
use Rattle.volume_chain.specs.declared.volumes.OpenVolume.TheVariants.{Cow, Raw}
use Rattle.chain_settling.specs.declared.lengths.Kind.{Kind}
use Rattle.chain_settling.specs.declared.lengths.Kind.TheVariants as kind
use Rattle.chain_settling.specs.declared.headers.HeaderWork.{HeaderWork}
use Rattle.chain_settling.specs.declared.headers.HeaderWork.TheVariants as header
use Rattle.chain_settling.specs.declared.stages.Part.{Part}
use Rattle.chain_settling.specs.declared.stages.Part.TheVariants as part
use Rattle.chain_settling.specs.declared.texts.Change.{Change}
use Rattle.chain_settling.specs.declared.texts.Change.TheVariants as change
use Rattle.chain_settling.specs.declared.texts.TextWork.{TextWork}
use Rattle.chain_settling.specs.declared.texts.TextWork.TheVariants as text

-- what stands at a place of a path
abbrev pub kind_of : Option OpenVolume → Kind
kind_of None = kind.End
kind_of (Some (Raw length)) = kind.Raw
kind_of (Some (Cow layer)) = kind.Layer

abbrev pub kind_at : Chain → ℕ → Kind
kind_at c at = kind_of (slice_get (open_in c) at)

-- the layer of the volume at a place of a path
abbrev pub IsLayerAt : Chain → ℕ → Layer → Type 0
IsLayerAt c at l = slice_get (open_in c) at ≡ Some (Cow l)

-- The volume that a layer's header has to be made to name: the parent that counts, with its format, where the header names
-- another one, or none.
abbrev pub IsBackingFor : Records → Layer → Option Backing → Type 0
IsBackingFor r l None = (up : Id) → IsOver r (volume_kept l) up → (parent_kept l ≡ Some up) ⊎ (r up ≡ None)
IsBackingFor r l (Some b) =
    IsOver r (volume_kept l) b.parent × (parent_kept l ≢ Some b.parent) × (x : VolumeRecord) × (r b.parent ≡ Some x) × (b.format ≡ x.format)

-- what has to be done to the header of the volume at a place of the path
abbrev pub IsHeaderWork : Chain → ℕ → HeaderWork → Type 0
IsHeaderWork c at header.End = kind_at c at ≡ kind.End
IsHeaderWork c at header.Stays = (at < length (open_in c)) × ((l : Layer) → IsLayerAt c at l → IsBackingFor (records_in (records_kept c)) l None)
IsHeaderWork c at (header.Names b) = (at < length (open_in c)) × (l : Layer) × IsLayerAt c at l × IsBackingFor (records_in (records_kept c)) l (Some b)

-- the volume at a place of the list
abbrev pub IsIdAt : Chain → ℕ → Id → Type 0
IsIdAt c i v = (x : Volume) × (slice_get (records_kept c) i ≡ Some x) × (x.id ≡ v)

-- its record
abbrev pub record_by : Records → Option Volume → Option VolumeRecord
record_by r None = None
record_by r (Some x) = r x.id

abbrev pub record_at : Chain → ℕ → Option VolumeRecord
record_at c i = record_by (records_in (records_kept c)) (slice_get (records_kept c) i)

-- ---- what has to be done to the text of a volume

-- a record with this change
abbrev pub changed_to : Change → VolumeRecord → VolumeRecord
changed_to (change.Parent up) x = naming up x
changed_to (change.Voltype t) x = typed t x

-- the change of a volume's record by a part of the texts: its parent becomes the one that counts, where it names a volume that
-- is passed over; or its VOLTYPE becomes the one that it has to have, where it has another one
abbrev pub IsParentChange : Records → Id → Option Change → Type 0
IsParentChange r v None = HasPassedParent r v → (up : Id) → IsOver r v up → ⊥
IsParentChange r v (Some (change.Parent up)) = IsOver r v up × HasPassedParent r v
IsParentChange r v (Some (change.Voltype t)) = ⊥

-- LEAF for a LEGAL volume exactly where no volume names it, and else INTERNAL
pub record IsRightType (r : Records) (v : Id) (t : VolType) : Type 0 where
  pub internal : is_legal r v ≡ true → IsNamed r v → t ≡ voltype.Internal
  pub leaf : is_legal r v ≡ true → (IsNamed r v → ⊥) → t ≡ voltype.Leaf

-- The text of a volume has to change in nothing: its parent isn't passed over, and its VOLTYPE is the one that it has to have.
pub record IsRight (r : Records) (v : Id) : Type 0 where
  pub parent : HasPassedParent r v → ⊥
  pub voltype : (x : VolumeRecord) → r v ≡ Some x → IsRightType r v x.voltype

abbrev pub IsTypeChange : Records → Id → Option Change → Type 0
IsTypeChange r v None = (x : VolumeRecord) → r v ≡ Some x → IsRightType r v x.voltype
IsTypeChange r v (Some (change.Parent up)) = ⊥
IsTypeChange r v (Some (change.Voltype t)) = (is_legal r v ≡ true) × IsRightType r v t × ((x : VolumeRecord) → r v ≡ Some x → x.voltype ≢ t)

abbrev pub IsChange : Part → Records → Id → Option Change → Type 0
IsChange part.Parents r v o = IsParentChange r v o
IsChange part.Types r v o = IsTypeChange r v o

-- what has to be done to the text of the volume at a place of the list
abbrev pub IsTextWork : Chain → Part → ℕ → TextWork → Type 0
IsTextWork c p i text.End = length (records_kept c) ≤ i
IsTextWork c p i (text.Stays v) = (i < length (records_kept c)) × IsIdAt c i v × IsChange p (records_in (records_kept c)) v None
IsTextWork c p i (text.Changes v change) = (i < length (records_kept c)) × IsIdAt c i v × IsChange p (records_in (records_kept c)) v (Some change)
