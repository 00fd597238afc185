-- Why an image can't be opened: the first refusal of a list of checks, in their order.
use Rattle.std.specs.Prelude.{◌≡◌, ◌≢◌, ◌⊎◌, ℕ, ◌<◌, true, false, List, [], ◌∷◌, ◌++◌, length, map, Contains, Option, Some, None, Result, Ok, Err, unwrap_or}
use Rattle.std.specs.Cmp.Lexicographic.{slice_cmp}
use Rattle.std.specs.Ordering.{nat_cmp}
use Rattle.std.specs.declared.cmp.Ordering.{Ordering}
use Rattle.std.specs.List.Sorted.{IsStrictlySortedBy}
use Rattle.sd_names.specs.Id.{zero_id}
use Rattle.sd_names.specs.declared.fault.Key.TheVariants as key
use Rattle.sd_names.specs.declared.fault.LayerFault.{LayerFault}
use Rattle.sd_names.specs.declared.fault.VolumeFault.{VolumeFault}
use Rattle.sd_names.specs.declared.fault.VolumeFault.TheVariants.{BadValue}
use Rattle.sd_names.specs.declared.id.Id.{Id}
use Rattle.sd_names.specs.declared.kinds.Format.TheVariants.{Raw, Cow}
use Rattle.sd_names.specs.declared.refusal.Refusal.{Refusal}
use Rattle.sd_names.specs.declared.refusal.Refusal.TheVariants.{ChainTooLong, LayerRefused, MetaCorrupt, NoReadingVolume, NoVolume, WrongParent}
use Rattle.shared_disk.specs.Content.{File}
use Rattle.volume_meta.specs.declared.record.VolumeRecord.{VolumeRecord}
use Rattle.image_model.specs.File.{file_of}
use Rattle.image_model.specs.Soundness.{HasFault}
use Rattle.chain_model.specs.Folder.{Volumes}
use Rattle.chain_model.specs.Records.{Image, Records, is_legal, is_volume, parent, records_of, text_of}
use Rattle.chain_model.specs.Chain.{HasRing, IsBelow, path_of}
use Rattle.chain_model.specs.Up.{up_of}
use Rattle.chain_model.specs.Reading.{HasNoReading, IsReading}
use Rattle.chain_model.specs.Headers.{backing}

-- the order of identifiers, by their bytes
abbrev pub id_cmp : Id → Id → Ordering
id_cmp v w = slice_cmp nat_cmp v.0 w.0

-- exactly the volumes of an image, in order of their identifiers
pub record AreVolumes (x : Volumes) (vs : List Id) : Type 0 where
  pub rising : IsStrictlySortedBy id_cmp vs
  pub each : (v : Id) → Contains vs v → is_volume x v ≡ true
  pub all : (v : Id) → is_volume x v ≡ true → Contains vs v

-- the path that is opened: that of the reading volume, where there is one
abbrev pub IsOpenPath : Records → List Id → Type 0
IsOpenPath r path = ((v : Id) × (vs : List Id) × IsReading r v vs × (path ≡ path_of r v vs)) ⊎ (HasNoReading r × (path ≡ []))

-- ---- what each check looks for

-- more volumes than an image may have
abbrev pub IsTooMany : List Id → Refusal → Type 0
IsTooMany vs e = (32 < length vs) × (e ≡ ChainTooLong (length vs))

-- a text that can't be read
abbrev pub IsBadText : Id → Option (Result VolumeRecord VolumeFault) → Refusal → Type 0
IsBadText v None e = ⊥
IsBadText v (Some (Ok x)) e = ⊥
IsBadText v (Some (Err fault)) e = e ≡ MetaCorrupt v fault

-- a volume without its file
abbrev pub IsMissing : Volumes → Id → Refusal → Type 0
IsMissing x v e = (x.file v ≡ None) × (e ≡ NoVolume v)

-- a parent that is no volume of the image
abbrev pub IsStray : Volumes → Records → Id → Refusal → Type 0
IsStray x r v e = (p : Id) × (parent r v ≡ Some p) × (is_volume x p ≡ false) × (e ≡ WrongParent v p)

-- parents that form a ring
abbrev pub IsRinged : Records → Refusal → Type 0
IsRinged r e = HasRing r × (e ≡ ChainTooLong 0)

-- a raw volume with a parent
abbrev pub IsRawAbove : Records → Id → Refusal → Type 0
IsRawAbove r v e = (x : VolumeRecord) × (r v ≡ Some x) × (x.format ≡ Raw) × (parent r v ≢ None) × (e ≡ MetaCorrupt v (BadValue key.Format))

-- the volume stands on the path of a LEGAL one
abbrev pub IsUsed : Records → Id → Type 0
IsUsed r v = (u : Id) × (us : List Id) × (is_legal r u ≡ true) × IsBelow r u us × Contains (path_of r u us) v

-- a volume in use whose capacity is below that of the parent that counts
abbrev pub IsTooSmall : Records → Id → Refusal → Type 0
IsTooSmall r v e =
    (x : VolumeRecord) × (r v ≡ Some x) × IsUsed r v
    × (vs : List Id) × IsBelow r v vs × (w : Id) × (up_of r vs ≡ Some w)
    × (y : VolumeRecord) × (r w ≡ Some y) × (x.capacity < y.capacity)
    × (e ≡ MetaCorrupt v (BadValue key.Cap))

-- no volume that guests could read and write
abbrev pub IsWithoutReading : Records → Refusal → Type 0
IsWithoutReading r e = HasNoReading r × (e ≡ NoReadingVolume)

-- a layer with a fault
abbrev pub IsBadLayer : Volumes → Records → Id → Refusal → Type 0
IsBadLayer x r v e =
    (y : VolumeRecord) × (r v ≡ Some y) × (y.format ≡ Cow) × (f : File) × (x.file v ≡ Some f)
    × (fault : LayerFault) × HasFault (file_of f.size f.stable) y.capacity fault × (e ≡ LayerRefused v fault)

-- what a header names, or zeros
abbrev pub named_by_header : Volumes → Records → Id → Id
named_by_header x r v = unwrap_or (backing r x v) zero_id

-- a layer whose header names neither the parent nor the parent that counts, zeros standing for none
abbrev pub IsBadName : Volumes → Records → Id → Refusal → Type 0
IsBadName x r v e =
    (y : VolumeRecord) × (r v ≡ Some y) × (y.format ≡ Cow) × (vs : List Id) × IsBelow r v vs
    × (named_by_header x r v ≢ y.parent) × (named_by_header x r v ≢ unwrap_or (up_of r vs) zero_id)
    × (e ≡ WrongParent v (named_by_header x r v))

-- ---- their order

pub data Check : Type 0 where
  count : Check
  text : Id → Check
  there : Id → Check
  parents : Id → Check
  ring : Check
  format : Id → Check
  capacity : Id → Check
  reading : Check
  layer : Id → Check
  header : Id → Check

abbrev pub Refuses : Image → Volumes → List Id → Check → Refusal → Type 0
Refuses i x vs count e = IsTooMany vs e
Refuses i x vs (text v) e = IsBadText v (text_of i x v) e
Refuses i x vs (there v) e = IsMissing x v e
Refuses i x vs (parents v) e = IsStray x (records_of i x) v e
Refuses i x vs ring e = IsRinged (records_of i x) e
Refuses i x vs (format v) e = IsRawAbove (records_of i x) v e
Refuses i x vs (capacity v) e = IsTooSmall (records_of i x) v e
Refuses i x vs reading e = IsWithoutReading (records_of i x) e
Refuses i x vs (layer v) e = IsBadLayer x (records_of i x) v e
Refuses i x vs (header v) e = IsBadName x (records_of i x) v e

-- two checks of each volume, volume by volume
abbrev pub both : (Id → Check) → (Id → Check) → List Id → List Check
both a b [] = []
both a b (v ∷ vs) = a v ∷ b v ∷ both a b vs

-- those that go over all volumes in order of their identifiers
abbrev pub of_volumes : List Id → List Check
of_volumes vs = count ∷ map text vs ++ map there vs ++ map parents vs ++ ring ∷ both format capacity vs

-- and then those that go along the path from the reading volume down
abbrev pub checks : List Id → List Id → List Check
checks vs path = of_volumes vs ++ reading ∷ both layer header path

-- the first check that refuses, and with what
abbrev pub FirstRefusal : Image → Volumes → List Id → List Check → Refusal → Type 0
FirstRefusal i x vs [] e = ⊥
FirstRefusal i x vs (c ∷ cs) e =
    Refuses i x vs c e ⊎ (((other : Refusal) → Refuses i x vs c other → ⊥) × FirstRefusal i x vs cs e)

-- why an image can't be opened
pub record OpenFault (i : Image) (x : Volumes) (e : Refusal) : Type 0 where
  pub volumes : List Id
  pub path : List Id
  pub are : AreVolumes x volumes
  pub opened : IsOpenPath (records_of i x) path
  pub first : FirstRefusal i x volumes (checks volumes path) e

-- an image that can be opened: it has a reading volume, and no check refuses
pub record IsOpenable (i : Image) (x : Volumes) (v : Id) (vs : List Id) : Type 0 where
  pub volumes : List Id
  pub are : AreVolumes x volumes
  pub reads : IsReading (records_of i x) v vs
  pub passes : (c : Check) → Contains (checks volumes (path_of (records_of i x) v vs)) c → (e : Refusal) → Refuses i x volumes c e → ⊥

-- the numbers of the refusals that an opening has
abbrev pub opening_numbers : List ℕ
opening_numbers = 57 ∷ 60 ∷ 65 ∷ 67 ∷ 68 ∷ 80 ∷ []
