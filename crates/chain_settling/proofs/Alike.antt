-- An image reads alike where a step leaves its files, and where it rewrites a text.
use Rattle.std.proofs.Common.{◌≡◌, ◌≢◌, ◌⊎◌, Bool, true, false, Option, Some, None, Result, refl, sym, ap, ◌∙◌, subst, inl, inr}
use Rattle.std.specs.Prelude.{option_and_then}
use Rattle.std.specs.Option.{option_map}
use Rattle.std.proofs.lemmas.Bool.{false≢true}
use Rattle.sd_names.specs.declared.fault.VolumeFault.{VolumeFault}
use Rattle.sd_names.specs.declared.id.Id.{Id}
use Rattle.sd_names.specs.declared.place.Dir.{Dir}
use Rattle.shared_disk.specs.Content.{Content, File}
use Rattle.shared_disk.specs.Crash.{IsAlso, IsSettled, OnEach}
use Rattle.shared_disk.specs.Places.{id_is}
use Rattle.shared_disk.proofs.Places.{id_is-itself, id_is-same}
use Rattle.volume_meta.specs.Read.{read_volume}
use Rattle.volume_meta.specs.declared.record.VolumeRecord.{VolumeRecord}
use Rattle.volume_texts.specs.Legible.{HasRecord}
use Rattle.chain_model.specs.Folder.{Volumes}
use Rattle.chain_model.specs.Records.{Image, Records, record_in, records_of, stored_text}
use Rattle.chain_gathering.specs.Knowing.{volumes_in}
use Rattle.chain_records.specs.Settling.{IsRewritten}
use Rattle.qcow_layer.specs.declared.layer.Layer.{Layer}
use Rattle.volume_chain.specs.declared.chain.Chain.{Chain}
use Rattle.chain_settling.specs.Alike.{HasTypeOf, HoldsAlike, IsOfImage, ReadsAlike}
use Rattle.chain_settling.specs.Steps.{IsLayerStep}
use Rattle.chain_settling.specs.Was.{AreLeftAlone, IsLeftAlone, IsOffLayers, file_in, folder_in, text_in}

-- what the text in a file says
abbrev pub says_by : Image → Option File → Option VolumeRecord
says_by i o = option_and_then record_in (option_map (λ f. read_volume i.version i.domain i.id (stored_text f)) o)

-- ---- nothing of the volumes has changed

pub record AreKept (dir : Dir) (d e : Content) : Type 0 where
  pub texts : (v : Id) → e.file (text_in dir v) ≡ d.file (text_in dir v)
  pub files : (v : Id) → e.file (file_in dir v) ≡ d.file (file_in dir v)

pub said_same : (i : Image) (dir : Dir) (v : Id) (d e : Content) → e.file (text_in dir v) ≡ d.file (text_in dir v) → records_of i (volumes_in dir e) v ≡ records_of i (volumes_in dir d) v
said_same i dir v d e same = ap (λ (o : Option File). says_by i o) same

pub alike_kept : (i : Image) (dir : Dir) (r : Records) (x : Volumes) (d e : Content) → AreKept dir d e → ReadsAlike i dir r x d → ReadsAlike i dir r x e
alike_kept i dir r x d e kept a = record {
  texts = λ v. subst (λ (o : Option File). IsAlso (λ f g. IsSettled g) (x.text v) o) (sym (kept.texts v)) (a.texts v);
  partly = λ v. subst (λ (o : Option VolumeRecord). (o ≡ r v) ⊎ IsRewritten r v (r v) o) (sym (said_same i dir v d e (kept.texts v))) (a.partly v);
  types = λ v. subst (HasTypeOf r v) (sym (said_same i dir v d e (kept.texts v))) (a.types v);
  files = λ v. subst (λ (o : Option File). IsAlso (λ f g. OnEach g (HoldsAlike (r v) f)) (x.file v) o) (sym (kept.files v)) (a.files v);
}

-- ---- a text is rewritten

-- a text that has a record of the image says it
pub said_record : (i : Image) (dir : Dir) (v : Id) (y : VolumeRecord) (e : Content) → IsOfImage i y → HasRecord i.version (text_in dir v) y e → records_of i (volumes_in dir e) v ≡ Some y
said_record i dir v y e own has =
    let domain : read_volume i.version i.domain i.id (stored_text has.0) ≡ read_volume i.version y.domain y.image (stored_text has.0) =
    λ j. read_volume i.version (sym own.domain j) (sym own.id j) (stored_text has.0) in
    ap (λ (o : Option File). says_by i o) has.1 ∙ ap (λ (s : Result VolumeRecord VolumeFault). option_and_then record_in (Some s)) (domain ∙ has.2.says)

pub record IsWritten (i : Image) (dir : Dir) (v : Id) (y : VolumeRecord) (d e : Content) : Type 0 where
  pub has : HasRecord i.version (text_in dir v) y e
  pub others : (u : Id) → u ≢ v → e.file (text_in dir u) ≡ d.file (text_in dir u)
  pub files : (u : Id) → e.file (file_in dir u) ≡ d.file (file_in dir u)

-- whether two volumes are one
pub same_or_not : (u v : Id) → (u ≡ v) ⊎ (u ≢ v)
same_or_not u v = go (id_is u v) refl
  where
    go : (b : Bool) → id_is u v ≡ b → (u ≡ v) ⊎ (u ≢ v)
    go true e = inl (id_is-same u v e)
    go false e = inr (λ same. false≢true (sym e ∙ ap (λ (w : Id). id_is w v) same ∙ id_is-itself v))

pub alike_written : (i : Image) (dir : Dir) (r : Records) (x : Volumes) (v : Id) (y : VolumeRecord) (d e : Content) → IsOfImage i y → (f : File) → x.text v ≡ Some f
    → (Some y ≡ r v) ⊎ IsRewritten r v (r v) (Some y) → HasTypeOf r v (Some y) → IsWritten i dir v y d e → ReadsAlike i dir r x d → ReadsAlike i dir r x e
alike_written i dir r x v y d e own f text is typed written a = record {
  texts = λ u. at_text u (same_or_not u v);
  partly = λ u. at_record u (same_or_not u v);
  types = λ u. at_type u (same_or_not u v);
  files = λ u. subst (λ (o : Option File). IsAlso (λ f g. OnEach g (HoldsAlike (r u) f)) (x.file u) o) (sym (written.files u)) (a.files u);
}
  where
    here : IsAlso (λ f g. IsSettled g) (x.text v) (e.file (text_in dir v))
    here = subst (λ (o : Option File). IsAlso (λ f g. IsSettled g) o (e.file (text_in dir v))) (sym text)
        (subst (λ (o : Option File). IsAlso (λ f g. IsSettled g) (Some f) o) (sym written.has.1) written.has.2.settled)

    at_text : (u : Id) → (u ≡ v) ⊎ (u ≢ v) → IsAlso (λ f g. IsSettled g) (x.text u) (e.file (text_in dir u))
    at_text u (inl same) = subst (λ (w : Id). IsAlso (λ f g. IsSettled g) (x.text w) (e.file (text_in dir w))) (sym same) here
    at_text u (inr other) = subst (λ (o : Option File). IsAlso (λ f g. IsSettled g) (x.text u) o) (sym (written.others u other)) (a.texts u)

    now : (records_of i (volumes_in dir e) v ≡ r v) ⊎ IsRewritten r v (r v) (records_of i (volumes_in dir e) v)
    now = subst (λ (o : Option VolumeRecord). (o ≡ r v) ⊎ IsRewritten r v (r v) o) (sym (said_record i dir v y e own written.has)) is

    at_record : (u : Id) → (u ≡ v) ⊎ (u ≢ v) → (records_of i (volumes_in dir e) u ≡ r u) ⊎ IsRewritten r u (r u) (records_of i (volumes_in dir e) u)
    at_record u (inl same) = subst (λ (w : Id). (records_of i (volumes_in dir e) w ≡ r w) ⊎ IsRewritten r w (r w) (records_of i (volumes_in dir e) w)) (sym same) now
    at_record u (inr other) = subst (λ (o : Option VolumeRecord). (o ≡ r u) ⊎ IsRewritten r u (r u) o) (sym (said_same i dir u d e (written.others u other))) (a.partly u)

    typed_here : HasTypeOf r v (records_of i (volumes_in dir e) v)
    typed_here = subst (HasTypeOf r v) (sym (said_record i dir v y e own written.has)) typed

    at_type : (u : Id) → (u ≡ v) ⊎ (u ≢ v) → HasTypeOf r u (records_of i (volumes_in dir e) u)
    at_type u (inl same) = subst (λ (w : Id). HasTypeOf r w (records_of i (volumes_in dir e) w)) (sym same) typed_here
    at_type u (inr other) = subst (HasTypeOf r u) (sym (said_same i dir u d e (written.others u other))) (a.types u)

-- ---- files of layers

-- a layer's file that stays
pub no_step : (r : Records) (l : Layer) (o p : Option File) → p ≡ o → IsAlso (IsLayerStep r l) o p
no_step r l None p same = subst (λ (q : Option File). IsAlso (IsLayerStep r l) None q) (sym same) tt
no_step r l (Some f) p same = subst (λ (q : Option File). IsAlso (IsLayerStep r l) (Some f) q) (sym same) (inl (inl refl))

-- the files of volumes of which no layer is on the path stay alone
pub alone_kept : (c : Chain) (x : Volumes) (d e : Content) → ((v : Id) → IsOffLayers c v → e.file (file_in (folder_in c) v) ≡ d.file (file_in (folder_in c) v)) → AreLeftAlone c x d → AreLeftAlone c x e
alone_kept c x d e same alone v off = subst (λ (o : Option File). IsAlso IsLeftAlone (x.file v) o) (sym (same v off)) (alone v off)
