-- What holds of an image that can be opened.
use Rattle.std.proofs.Common.{◌≡◌, ◌⊎◌, ◌<◌, ◌≤◌, Bool, true, false, List, length, Option, Some, None, Result, Ok, Err, unwrap_or, refl, sym, ap, subst, inl, inr}
use Rattle.std.specs.Prelude.{◌≢◌, option_and_then}
use Rattle.std.specs.List.{Contains}
use Rattle.std.specs.Option.{is_some, option_map}
use Rattle.std.proofs.lemmas.Bool.{cases_lt, false≢true}
use Rattle.sd_names.specs.Id.{zero_id}
use Rattle.sd_names.specs.declared.fault.Key.TheVariants as key
use Rattle.sd_names.specs.declared.fault.VolumeFault.{VolumeFault}
use Rattle.sd_names.specs.declared.fault.VolumeFault.TheVariants.{BadValue}
use Rattle.sd_names.specs.declared.id.Id.{Id}
use Rattle.sd_names.specs.declared.kinds.Format.TheVariants.{Cow}
use Rattle.sd_names.specs.declared.refusal.Refusal.TheVariants.{ChainTooLong, LayerRefused, MetaCorrupt, NoVolume, WrongParent}
use Rattle.shared_disk.specs.Content.{File}
use Rattle.volume_meta.specs.declared.record.VolumeRecord.{VolumeRecord}
use Rattle.image_model.specs.File.{file_of}
use Rattle.image_model.specs.Soundness.{IsSound}
use Rattle.image_model.proofs.Faults.{sound_if_none}
use Rattle.chain_model.specs.Folder.{Volumes}
use Rattle.chain_model.specs.Records.{Image, is_volume, parent, record_in, records_of, text_of}
use Rattle.chain_model.specs.Chain.{ComesToRing, IsBelow, path_of}
use Rattle.chain_model.specs.Up.{up_of}
use Rattle.chain_model.specs.Opening.{AreVolumes, IsBadText, IsOpenable, IsUsed, capacity, count, header, layer, named_by_header, parents, ring, text, there}
use Rattle.chain_model.proofs.Asked.{asks_capacity, asks_count, asks_header, asks_layer, asks_parents, asks_ring, asks_text, asks_there}
use Rattle.chain_model.proofs.Opened.{text_there}
use Rattle.chain_model.proofs.Refusals.{one_list}
use Rattle.chain_model.proofs.Rings.{chain_or_ring, record_behind}
use Rattle.chain_model.proofs.Settled.{is_one}

-- the path that is opened
abbrev opened : Image → Volumes → Id → List Id → List Id
opened i x v vs = path_of (records_of i x) v vs

-- a volume with a record is one of the image
known : (i : Image) (x : Volumes) (v : Id) (vs : List Id) (w : Id) (y : VolumeRecord) → (o : IsOpenable i x v vs) → records_of i x w ≡ Some y → Contains o.volumes w
known i x v vs w y o is = o.are.all w (text_there _ (x.text w) y is)

pub few : (i : Image) (x : Volumes) (v : Id) (vs all : List Id) → IsOpenable i x v vs → AreVolumes x all → length all ≤ 32
few i x v vs all o are = go (cases_lt 32 (length all))
  where
    go : (32 < length all) ⊎ (length all ≤ 32) → length all ≤ 32
    go (inr le) = le
    go (inl lt) =
        let same = one_list x all o.volumes are o.are in
        absurd (o.passes count (asks_count o.volumes (opened i x v vs)) (ChainTooLong (length o.volumes)) (subst (λ (us : List Id). 32 < length us) same lt, refl))

text_missing : (f : File → Result VolumeRecord VolumeFault) (o : Option File) → is_some o ≡ true → option_map f o ≡ None → ⊥
text_missing f None e h = false≢true e
text_missing f (Some g) e h = absurd cc

pub texts : (i : Image) (x : Volumes) (v : Id) (vs : List Id) (w : Id) → IsOpenable i x v vs → is_volume x w ≡ true → (y : VolumeRecord) × (records_of i x w ≡ Some y)
texts i x v vs w o is = go (text_of i x w) refl
  where
    go : (r : Option (Result VolumeRecord VolumeFault)) → text_of i x w ≡ r → (y : VolumeRecord) × (records_of i x w ≡ Some y)
    go None e = absurd (text_missing _ (x.text w) is e)
    go (Some (Ok y)) e = (y, ap (λ (r : Option (Result VolumeRecord VolumeFault)). option_and_then record_in r) e)
    go (Some (Err fault)) e =
        absurd (o.passes (text w) (asks_text o.volumes (opened i x v vs) w (o.are.all w is)) (MetaCorrupt w fault) (subst (λ (r : Option (Result VolumeRecord VolumeFault)). IsBadText w r (MetaCorrupt w fault)) (sym e) refl))

pub files : (i : Image) (x : Volumes) (v : Id) (vs : List Id) (w : Id) → IsOpenable i x v vs → is_volume x w ≡ true → (f : File) × (x.file w ≡ Some f)
files i x v vs w o is = go (x.file w) refl
  where
    go : (f : Option File) → x.file w ≡ f → (f : File) × (x.file w ≡ Some f)
    go None e = absurd (o.passes (there w) (asks_there o.volumes (opened i x v vs) w (o.are.all w is)) (NoVolume w) (e, refl))
    go (Some f) e = (f, e)

pub parents_inside : (i : Image) (x : Volumes) (v : Id) (vs : List Id) (w p : Id) → IsOpenable i x v vs → parent (records_of i x) w ≡ Some p → is_volume x p ≡ true
parents_inside i x v vs w p o e = go (is_volume x p) refl
  where
    go : (b : Bool) → is_volume x p ≡ b → is_volume x p ≡ true
    go true t = t
    go false t =
        let has = record_behind (records_of i x w) p e in
        absurd (o.passes (parents w) (asks_parents o.volumes (opened i x v vs) w (known i x v vs w has.0 o has.1)) (WrongParent w p) (p, e, t, refl))

pub chains : (i : Image) (x : Volumes) (v : Id) (vs : List Id) (w : Id) → IsOpenable i x v vs → (ws : List Id) × IsBelow (records_of i x) w ws
chains i x v vs w o = go (chain_or_ring (records_of i x) o.volumes (λ u y is. known i x v vs u y o is) w)
  where
    go : ((ws : List Id) × IsBelow (records_of i x) w ws) ⊎ ComesToRing (records_of i x) w → (ws : List Id) × IsBelow (records_of i x) w ws
    go (inl b) = b
    go (inr r) = absurd (o.passes ring (asks_ring o.volumes (opened i x v vs)) (ChainTooLong 0) ((r.0, r.2), refl))

pub capacities : (i : Image) (x : Volumes) (v : Id) (vs : List Id) (w p : Id) (ws : List Id) (y z : VolumeRecord) → IsOpenable i x v vs → IsUsed (records_of i x) w
    → records_of i x w ≡ Some y → IsBelow (records_of i x) w ws → up_of (records_of i x) ws ≡ Some p → records_of i x p ≡ Some z → z.capacity ≤ y.capacity
capacities i x v vs w p ws y z o used is below up theirs = go (cases_lt y.capacity z.capacity)
  where
    go : (y.capacity < z.capacity) ⊎ (z.capacity ≤ y.capacity) → z.capacity ≤ y.capacity
    go (inr le) = le
    go (inl lt) =
        absurd (o.passes (capacity w) (asks_capacity o.volumes (opened i x v vs) w (known i x v vs w y o is)) (MetaCorrupt w (BadValue key.Cap)) (y, is, used, ws, below, p, up, z, theirs, lt, refl))

pub layers : (i : Image) (x : Volumes) (v : Id) (vs : List Id) (w : Id) (y : VolumeRecord) (f : File) → IsOpenable i x v vs → Contains (path_of (records_of i x) v vs) w
    → records_of i x w ≡ Some y → y.format ≡ Cow → x.file w ≡ Some f → IsSound (file_of f.size f.stable) y.capacity
layers i x v vs w y f o on is cow file =
    sound_if_none (file_of f.size f.stable) y.capacity
    (λ fault h. o.passes (layer w) (asks_layer o.volumes (opened i x v vs) w on) (LayerRefused w fault) (y, is, cow, f, file, fault, h, refl))

pub headers : (i : Image) (x : Volumes) (v : Id) (vs : List Id) (w : Id) (ws : List Id) (y : VolumeRecord) → IsOpenable i x v vs → Contains (path_of (records_of i x) v vs) w
    → records_of i x w ≡ Some y → y.format ≡ Cow → IsBelow (records_of i x) w ws
    → (named_by_header x (records_of i x) w ≡ y.parent) ⊎ (named_by_header x (records_of i x) w ≡ unwrap_or (up_of (records_of i x) ws) zero_id)
headers i x v vs w ws y o on is cow below = go (is_one (named_by_header x (records_of i x) w) y.parent) (is_one (named_by_header x (records_of i x) w) (unwrap_or (up_of (records_of i x) ws) zero_id))
  where
    go : (named_by_header x (records_of i x) w ≡ y.parent) ⊎ (named_by_header x (records_of i x) w ≢ y.parent)
        → (named_by_header x (records_of i x) w ≡ unwrap_or (up_of (records_of i x) ws) zero_id) ⊎ (named_by_header x (records_of i x) w ≢ unwrap_or (up_of (records_of i x) ws) zero_id)
        → (named_by_header x (records_of i x) w ≡ y.parent) ⊎ (named_by_header x (records_of i x) w ≡ unwrap_or (up_of (records_of i x) ws) zero_id)
    go (inl e) other = inl e
    go (inr one) (inl e) = inr e
    go (inr one) (inr two) =
        absurd (o.passes (header w) (asks_header o.volumes (opened i x v vs) w on) (WrongParent w (named_by_header x (records_of i x) w)) (y, is, cow, ws, below, one, two, refl))
