-- The chain of an image, with the volumes of its path that are open.
use Rattle.std.specs.Prelude.{◌≡◌, ◌⊎◌, ℕ, ◌^◌, List, [], ◌∷◌, ◌++◌, length, slice_get, Option, Some, None, option_and_then, unwrap_or}
use Rattle.sd_names.specs.Id.{zero_id}
use Rattle.sd_names.specs.declared.id.Id.{Id}
use Rattle.sd_names.specs.declared.kinds.Format.TheVariants as format
use Rattle.sd_names.specs.declared.place.Dir.{Dir}
use Rattle.sd_names.specs.declared.place.Dir.TheVariants as dir
use Rattle.sd_names.specs.declared.place.Name.TheVariants as name
use Rattle.sd_names.specs.declared.place.Place.{Place}
use Rattle.shared_disk.specs.NameCalls as names
use Rattle.volume_meta.specs.declared.record.VolumeRecord.{VolumeRecord}
use Rattle.qcow_layer.specs.Opening.{target_kept}
use Rattle.qcow_layer.specs.declared.stages.Target as layer
use Rattle.chain_model.specs.Records.{Image, Records}
use Rattle.chain_model.specs.Up.{up_of}
use Rattle.chain_records.specs.Checks.{FirstIs, record_checks}
use Rattle.chain_records.specs.Paths.{IsReadingPath, capacity_in}
use Rattle.chain_records.specs.Records.{ids_of, records_in}
use Rattle.chain_records.specs.declared.volume.Volume.{Volume}
use Rattle.chain_gathering.specs.Kept.{AreValid}
use Rattle.volume_chain.specs.declared.chain.Chain.{Chain}
use Rattle.volume_chain.specs.declared.chain.Kind.{Kind}
use Rattle.volume_chain.specs.declared.chain.Kind.TheVariants as kind
use Rattle.volume_chain.specs.declared.chain.Target.{Target}
use Rattle.volume_chain.specs.declared.volumes.OpenVolume.{OpenVolume}
use Rattle.volume_chain.specs.declared.volumes.OpenVolume.TheVariants.{Raw, Cow}

-- the image's folder, the image, and the place of a volume's file
abbrev pub dir_in : Target → Dir
dir_in t = dir.Image t.sd t.image

abbrev pub image_in : Target → Image
image_in t = record { domain = t.sd; id = t.image; version = t.version }

abbrev pub place_in : Target → Id → Place
place_in t v = names.place_in (dir_in t) (name.Volume v)

-- what a chain keeps: its image, the records of all volumes, the path, and those volumes of the path that are open
abbrev pub target_of : Chain → Target
target_of c = c.target

abbrev pub records_kept : Chain → List Volume
records_kept c = c.records

abbrev pub path_in : Chain → List Id
path_in c = c.path

abbrev pub open_in : Chain → List OpenVolume
open_in c = c.volumes

-- the volume that guests read and write
abbrev pub reading_in : Chain → Option Id
reading_in c = slice_get c.path 0

-- its capacity, in bytes
abbrev pub capacity_of : Chain → Option ℕ
capacity_of c = option_and_then (capacity_in (records_in c.records)) (slice_get c.path 0)

-- the first volume of the path that isn't open yet
abbrev pub next_of : Chain → Option Id
next_of c = slice_get c.path (length c.volumes)

-- how a volume is opened, by its record
abbrev pub kind_by : Id → Option VolumeRecord → Option Kind
kind_by v None = None
kind_by v (Some x) = Some (elim x.format [ format.Raw ↦ kind.Raw v | format.Cow ↦ kind.Cow v x.capacity ])

abbrev pub kind_of : Records → Option Id → Option Kind
kind_of r None = None
kind_of r (Some v) = kind_by v (r v)

-- one volume more is open, where there is one
abbrev pub opened_by : Chain → OpenVolume → Option Id → Chain
opened_by c o None = c
opened_by c o (Some v) = record c { volumes = c.volumes ++ o ∷ [] }

abbrev pub opened : Chain → OpenVolume → Chain
opened c o = opened_by c o (next_of c)

-- What the header of a layer may name, over the volumes that stand below its volume: the parent in the volume's record, or the
-- parent that counts. Zeros stand for none.
abbrev pub IsExpected : Records → Id → List Id → Id → Type 0
IsExpected r v vs named = (x : VolumeRecord) × (r v ≡ Some x) × ((named ≡ x.parent) ⊎ (named ≡ unwrap_or (up_of r vs) zero_id))

-- the layer that is opened for a volume, whose capacity becomes 1 TiB at the most
abbrev pub layer_of : Target → Id → VolumeRecord → layer.Target
layer_of t v x = record { volume = v; place = place_in t v; capacity = x.capacity; greatest = 2 ^ 40 }

-- a volume is open as its record says
abbrev pub IsOpenAs : Target → Id → Option VolumeRecord → OpenVolume → Type 0
IsOpenAs t v None o = ⊥
IsOpenAs t v (Some x) (Raw length) = x.format ≡ format.Raw
IsOpenAs t v (Some x) (Cow layer) = (x.format ≡ format.Cow) × (target_kept layer ≡ layer_of t v x)

-- this holds of the first volumes of a path, one by one
abbrev pub OnPath : (Id → OpenVolume → Type 0) → List Id → List OpenVolume → Type 0
OnPath R path [] = Unit {0}
OnPath R [] (o ∷ os) = ⊥
OnPath R (v ∷ vs) (o ∷ os) = R v o × OnPath R vs os

abbrev pub AreOpenAs : Target → Records → List Id → List OpenVolume → Type 0
AreOpenAs t r path os = OnPath (λ v o. IsOpenAs t v (r v) o) path os

-- Each record is valid and no check of them refuses, the path is that of the reading volume, and its first volumes are open as
-- their records say.
pub record IsShaped (c : Chain) : Type 0 where
  pub valid : AreValid c.records
  pub checked : FirstIs (records_in c.records) (record_checks (ids_of c.records)) None
  pub reading : IsReadingPath (records_in c.records) c.path
  pub each : AreOpenAs c.target (records_in c.records) c.path c.volumes
