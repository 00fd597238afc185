-- The headers of a path's layers, once each names the parent that counts.
use Rattle.std.proofs.Common.{◌≡◌, ◌≢◌, ◌⊎◌, ℕ, Bool, true, false, List, [], ◌∷◌, Option, Some, None, refl, sym, ap, ◌∙◌, subst, inl, inr, arith}
use Rattle.std.specs.Prelude.{slice_get}
use Rattle.std.specs.List.{Contains}
use Rattle.std.proofs.lemmas.Option.{get_or_from_slice_get, none-some, same_Some, slice_get-get_or, slice_get_within}
use Rattle.sd_names.specs.declared.fault.Key.TheVariants as key
use Rattle.sd_names.specs.declared.fault.VolumeFault.TheVariants.{BadValue}
use Rattle.sd_names.specs.declared.id.Id.{Id}
use Rattle.sd_names.specs.declared.kinds.Format.TheVariants as format
use Rattle.sd_names.specs.declared.place.Place.{Place}
use Rattle.sd_names.specs.declared.refusal.Refusal.TheVariants.{MetaCorrupt}
use Rattle.shared_disk.specs.Content.{Content, File}
use Rattle.shared_disk.specs.Crash.{IsAlso, IsFileOutcome, IsSettled, OnEach}
use Rattle.shared_disk.proofs.AtPlace.{one_file}
use Rattle.shared_disk.proofs.Outcomes.{contains_here, settled_file}
use Rattle.volume_meta.specs.declared.record.VolumeRecord.{VolumeRecord}
use Rattle.qcow_layer.specs.Knowing.{KnowsLayer}
use Rattle.qcow_layer.specs.Opening.{place_kept, volume_kept}
use Rattle.qcow_layer.specs.declared.layer.Layer.{Layer}
use Rattle.qcow_layer.specs.declared.stages.Target as layer
use Rattle.chain_gathering.specs.Knowing.{volumes_in}
use Rattle.chain_model.specs.Chain.{IsBelow, counting}
use Rattle.chain_model.specs.Folder.{Volumes}
use Rattle.chain_model.specs.Opening.{format as format_check}
use Rattle.chain_model.specs.Records.{Records, is_passed, parent, records_of}
use Rattle.chain_model.specs.Up.{up_of}
use Rattle.chain_model.proofs.Refusals.{one_path}
use Rattle.chain_model.proofs.Rings.{record_behind}
use Rattle.chain_records.specs.Checks.{record_checks}
use Rattle.chain_records.specs.Paths.{IsReadingPath}
use Rattle.chain_records.specs.Records.{ids_of, records_in}
use Rattle.chain_records.specs.Settling.{IsOver, IsRewritten}
use Rattle.chain_records.proofs.Lists.{record_among, some_record}
use Rattle.chain_records.proofs.Settled.{counted, parent_rewritten, up_kept, up_reached}
use Rattle.chain_records.proofs.Short.{asks_format, chain_inside, passes}
use Rattle.volume_chain.specs.Chain.{IsOpenAs, open_in, path_in, target_of}
use Rattle.volume_chain.specs.declared.chain.Chain.{Chain}
use Rattle.volume_chain.specs.declared.chain.Target.{Target}
use Rattle.volume_chain.specs.declared.volumes.OpenVolume.{OpenVolume}
use Rattle.volume_chain.specs.declared.volumes.OpenVolume.TheVariants.{Cow, Raw}
use Rattle.chain_settling.specs.Alike.{IsCow, KnowsImage}
use Rattle.chain_settling.specs.Knowing.{AreTold, KnowsRest}
use Rattle.chain_settling.specs.Reopening.{NamesAlike, OpensAlike, named_in}
use Rattle.chain_settling.specs.Was.{WasOpen, file_in, folder_in, image_kept, text_in}
use Rattle.chain_settling.specs.Work.{IsLayerAt}
use Rattle.chain_settling.proofs.Alike.{same_or_not}
use Rattle.chain_settling.proofs.Grows.{there}
use Rattle.chain_settling.proofs.HeadNames.{settled_names}
use Rattle.chain_settling.proofs.Plans.{parent_by}
use Rattle.chain_settling.proofs.OpensAlike.{NamesAt, names_kept, sound_kept, text_names}

-- ---- the layers of a path

-- the volume of a layer of the path, with its record
pub record OfPath (c : Chain) (r : Records) (l : Layer) : Type 0 where
  pub says : VolumeRecord
  pub is : r (volume_kept l) ≡ Some says
  pub cow : IsCow l (Some says)
  pub on : Contains (path_in c) (volume_kept l)

contains_at : (xs : List Id) (b : ℕ) (v : Id) → slice_get xs b ≡ Some v → Contains xs v
contains_at xs b v e = (b, slice_get_within xs b v e, get_or_from_slice_get xs b v v e)

opened_as : (c : Chain) (r : Records) (t : Target) (v : Id) (o : Option VolumeRecord) (l : Layer) → r v ≡ o → Contains (path_in c) v → IsOpenAs t v o (Cow l) → OfPath c r l
opened_as c r t v None l e on is = absurd is
opened_as c r t v (Some y) l e on is =
    let own : volume_kept l ≡ v = ap (λ (q : layer.Target). q.volume) is.1 in
    record {
      says = y;
      is = ap (λ (u : Id). r u) own ∙ e;
      cow = (is.0, sym (ap (λ (q : layer.Target). q.capacity) is.1));
      on = subst (λ (u : Id). Contains (path_in c) u) (sym own) on;
    }

pub layer_on : (c : Chain) (r : Records) (x : Volumes) (b : ℕ) (l : Layer) → WasOpen c r x → IsLayerAt c b l → OfPath c r l
layer_on c r x b l was is = go (slice_get (path_in c) b) refl
  where
    go : (o : Option Id) → slice_get (path_in c) b ≡ o → OfPath c r l
    go None none = let within = slice_get_within (open_in c) b (Cow l) is in absurd (there (path_in c) b (omega (arith, within, was.all)) none)
    go (Some v) e = opened_as c r (target_of c) v (r v) l refl (contains_at (path_in c) b v e) (was.each b v (Cow l) e is).0

-- a volume of the path that has a parent is a layer
record Found (c : Chain) (v : Id) : Type 0 where
  at : ℕ
  layer : Layer
  is : IsLayerAt c at layer
  own : volume_kept layer ≡ v

raw_without : (c : Chain) (r : Records) (x : Volumes) (v p : Id) (y : VolumeRecord) → WasOpen c r x → r v ≡ Some y → y.format ≡ format.Raw → parent r v ≡ Some p → ⊥
raw_without c r x v p y was is raw has =
    let said : records_in was.first v ≡ Some y = ap (λ (s : Records). s v) (sym was.records) ∙ is in
    passes (records_in was.first) (record_checks (ids_of was.first)) was.checked (format_check v) (asks_format (ids_of was.first) v (record_among was.first v y said)) (MetaCorrupt v (BadValue key.Format))
    (y, said, raw, (λ none. none-some p (sym none ∙ ap (λ (s : Records). parent s v) (sym was.records) ∙ has)), refl)

find : (c : Chain) (r : Records) (x : Volumes) (v p : Id) → WasOpen c r x → Contains (path_in c) v → parent r v ≡ Some p → Found c v
find c r x v p was on has = go (slice_get (open_in c) on.0) refl
  where
    at : slice_get (path_in c) on.0 ≡ Some v
    at = slice_get-get_or (path_in c) on.0 v on.1 ∙ ap (λ (u : Id). Some u) on.2

    as_layer : (o : Option VolumeRecord) (l : Layer) → IsOpenAs (target_of c) v o (Cow l) → volume_kept l ≡ v
    as_layer None l is = absurd is
    as_layer (Some y) l is = ap (λ (q : layer.Target). q.volume) is.1

    not_raw : (o : Option VolumeRecord) (bytes : ℕ) → r v ≡ o → IsOpenAs (target_of c) v o (Raw bytes) → ⊥
    not_raw None bytes e is = is
    not_raw (Some y) bytes e is = raw_without c r x v p y was e is has

    go : (o : Option OpenVolume) → slice_get (open_in c) on.0 ≡ o → Found c v
    go None none = absurd (there (open_in c) on.0 (omega (arith, on.1, was.all)) none)
    go (Some (Raw bytes)) e = absurd (not_raw (r v) bytes refl (was.each on.0 v (Raw bytes) at e).0)
    go (Some (Cow l)) e = record { at = on.0; layer = l; is = e; own = as_layer (r v) l (was.each on.0 v (Cow l) at e).0 }

-- ---- parents that count

-- a volume with a parent has one that counts
over_there : (r : Records) (v p : Id) (vs : List Id) → IsBelow r v vs → parent r v ≡ Some p → (up : Id) × IsOver r v up
over_there r v p [] below has = absurd (none-some p (sym below ∙ has))
over_there r v p (w ∷ ws) below has = go (is_passed r w) refl
  where
    go : (t : Bool) → is_passed r w ≡ t → (up : Id) × IsOver r v up
    go true t = up_reached r v (w ∷ ws) below (w, below.0, t)
    go false t = (w, (w ∷ ws, below, up_kept r w ws t))

pub up_among : (r : Records) (w : Id) (vs : List Id) → up_of r vs ≡ Some w → Contains (counting r vs) w
up_among r w vs e = go (counting r vs) e
  where
    go : (us : List Id) → slice_get us 0 ≡ Some w → Contains us w
    go [] f = absurd cc
    go (u ∷ us) f = subst (λ (z : Id). Contains (u ∷ us) z) (same_Some u w f) (contains_here u us)

-- and that one has a record
over_record : (c : Chain) (r : Records) (x : Volumes) (v p up : Id) → WasOpen c r x → parent r v ≡ Some p → IsOver r v up → (y : VolumeRecord) × (r up ≡ Some y)
over_record c r x v p up was has over =
    let own = record_behind (r v) p has in
    let said : records_in was.first v ≡ Some own.0 = ap (λ (s : Records). s v) (sym was.records) ∙ own.1 in
    let below = subst (λ (s : Records). IsBelow s v over.0) was.records over.1 in
    let counts = subst (λ (s : Records). up_of s over.0 ≡ Some up) was.records over.2 in
    let among = counted (records_in was.first) up over.0 (up_among (records_in was.first) up over.0 counts) in
    let has_record = some_record was.first up (chain_inside was.first v up over.0 was.checked (record_among was.first v own.0 said) below among.0) in
    (has_record.0, ap (λ (s : Records). s up) was.records ∙ has_record.1)

-- ---- the headers of a path that are told

-- the file of a volume with a parent names the parent that counts
pub told_names : (c : Chain) (r : Records) (x : Volumes) (host : ℕ) (d : Content) (path : List Id) (v p : Id) (f : File) → KnowsImage c r x d → KnowsRest c host d → AreTold c r → IsReadingPath r path → Contains path v
    → parent r v ≡ Some p → d.file (file_in (folder_in c) v) ≡ Some f → (up : Id) × IsOver r v up × OnEach f (λ g. named_in (r v) g ≡ Some up)
told_names c r x host d path v p f image rest told reads on has is =
    let own = find c r x v p image.was (subst (λ (ps : List Id). Contains ps v) (one_path r path (path_in c) (inl reads) (inl image.was.reading)) on) has in
    let chain = image.chains v in
    let over = over_there r v p chain.0 chain.1 has in
    (over.0, over.1, λ g out. named own over.0 over.1 g out)
  where
    named : (own : Found c v) (up : Id) → IsOver r v up → (g : File) → IsFileOutcome f g → named_in (r v) g ≡ Some up
    named own up over g out =
        let known = rest.layers.each own.at own.layer own.is in
        let place : place_kept own.layer ≡ file_in (folder_in c) v = known.place ∙ ap (λ (u : Id). file_in (folder_in c) u) own.own in
        let one : known.file ≡ f = one_file known.file f (d.file (file_in (folder_in c) v)) (ap (λ (q : Place). d.file q) (sym place) ∙ known.there) is in
        let at = layer_on c r x own.at own.layer image.was own.is in
        let its : IsOver r (volume_kept own.layer) up = subst (λ (u : Id). IsOver r u up) (sym own.own) over in
        let has_up = over_record c r x v p up image.was has over in
        let settled : IsSettled f = subst IsSettled one known.settled in
        let name = settled_names own.layer at.says host f at.cow (subst (λ (z : File). KnowsLayer own.layer host z) one known.knows) settled in
        ap (λ (o : Option VolumeRecord). named_in o g) (ap (λ (u : Id). r u) (sym own.own) ∙ at.is)
        ∙ ap (λ (z : File). named_in (Some at.says) z) (settled_file f g settled out) ∙ name ∙ told own.at own.layer own.is up has_up.0 its has_up.1

-- ---- a text is rewritten, once all headers are

-- a text without a parent is left without one
none_left : (r s : Records) (v : Id) → (s v ≡ r v) ⊎ IsRewritten r v (r v) (s v) → parent r v ≡ None → parent s v ≡ None
none_left r s v (inl same) none = ap (λ (o : Option VolumeRecord). parent_by o) same ∙ none
none_left r s v (inr is) none = parent_rewritten r s v [] is none

pub opens_written : (c : Chain) (r : Records) (x : Volumes) (host : ℕ) (d e : Content) (w : Id) (y : VolumeRecord) → KnowsImage c r x d → KnowsRest c host d → AreTold c r
    → records_of (image_kept c) (volumes_in (folder_in c) e) w ≡ Some y → (Some y ≡ r w) ⊎ IsRewritten r w (r w) (Some y)
    → ((v : Id) → v ≢ w → e.file (text_in (folder_in c) v) ≡ d.file (text_in (folder_in c) v)) → ((v : Id) → e.file (file_in (folder_in c) v) ≡ d.file (file_in (folder_in c) v))
    → OpensAlike (image_kept c) (folder_in c) r x e
opens_written c r x host d e w y image rest told says partly texts files = record {
  sound = λ v. sound_kept (folder_in c) r x d e v (files v) (image.opens.sound v);
  names = λ path v reads on. named path v (same_or_not v w) reads on;
}
  where
    s : Records
    s = records_of (image_kept c) (volumes_in (folder_in c) e)

    before : (path : List Id) → IsReadingPath r path → Contains path w → (t : Option File) → x.file w ≡ t → IsAlso (NamesAt r w (text_names (image_kept c) (folder_in c) d w)) t (e.file (file_in (folder_in c) w))
    before path reads on t same =
        subst (λ (o : Option File). IsAlso (NamesAt r w (text_names (image_kept c) (folder_in c) d w)) t o) (sym (files w))
        (subst (λ (o : Option File). IsAlso (NamesAt r w (text_names (image_kept c) (folder_in c) d w)) o (d.file (file_in (folder_in c) w))) same (image.opens.names path w reads on))

    -- a text that had no parent has none, and one that had may name the one that counts, as the header does
    step : (path : List Id) → IsReadingPath r path → Contains path w → (o : Option Id) → parent r w ≡ o → (t f : File) → e.file (file_in (folder_in c) w) ≡ Some f
        → NamesAt r w (text_names (image_kept c) (folder_in c) d w) t f → NamesAt r w (parent s w) t f
    step path reads on None none t f there was g out = go (was g out)
      where
        go : NamesAlike r w (text_names (image_kept c) (folder_in c) d w) t g → NamesAlike r w (parent s w) t g
        go (inl same) = inl (none_left r s w (subst (λ (o : Option VolumeRecord). (o ≡ r w) ⊎ IsRewritten r w (r w) o) (sym says) partly) none ∙ sym none, same.1)
        go (inr up) = inr up
    step path reads on (Some p) has t f there was g out =
        let up = told_names c r x host d path w p f image rest told reads on has (sym (files w) ∙ there) in
        inr (up.0, up.1, up.2 g out)

    here : (path : List Id) → IsReadingPath r path → Contains path w → IsAlso (NamesAt r w (parent s w)) (x.file w) (e.file (file_in (folder_in c) w))
    here path reads on = go (x.file w) (e.file (file_in (folder_in c) w)) refl (before path reads on (x.file w) refl)
      where
        go : (t f : Option File) → e.file (file_in (folder_in c) w) ≡ f → IsAlso (NamesAt r w (text_names (image_kept c) (folder_in c) d w)) t f → IsAlso (NamesAt r w (parent s w)) t f
        go None None e1 also = tt
        go None (Some f) e1 also = absurd also
        go (Some t) None e1 also = absurd also
        go (Some t) (Some f) e1 also = step path reads on (parent r w) refl t f e1 also

    named : (path : List Id) (v : Id) → (v ≡ w) ⊎ (v ≢ w) → IsReadingPath r path → Contains path v → IsAlso (NamesAt r v (parent s v)) (x.file v) (e.file (file_in (folder_in c) v))
    named path v (inr other) reads on = names_kept (image_kept c) (folder_in c) r x d e v (texts v other) (files v) (image.opens.names path v reads on)
    named path v (inl same) reads on =
        subst (λ (u : Id). IsAlso (NamesAt r u (parent s u)) (x.file u) (e.file (file_in (folder_in c) u))) (sym same)
        (here path reads (subst (λ (u : Id). Contains path u) same on))
