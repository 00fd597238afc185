-- A text is rewritten only where it has to change.
use Rattle.std.proofs.Common.{◌≡◌, ◌≢◌, ◌⊎◌, ℕ, true, List, [], ◌∷◌, Option, Some, sym, ap, ◌∙◌, subst, inl, inr}
use Rattle.std.proofs.lemmas.Bool.{false≢true}
use Rattle.std.proofs.lemmas.Option.{none-some, same_Some}
use Rattle.sd_names.specs.declared.id.Id.{Id}
use Rattle.sd_names.specs.declared.kinds.VolType.{VolType}
use Rattle.shared_disk.specs.Content.{Content}
use Rattle.shared_disk.proofs.Outcomes.{contains_here}
use Rattle.layer_creating.specs.declared.backing.Backing.{Backing}
use Rattle.qcow_layer.specs.declared.layer.Layer.{Layer}
use Rattle.volume_meta.specs.declared.record.VolumeRecord.{VolumeRecord}
use Rattle.chain_gathering.specs.Knowing.{volumes_in}
use Rattle.chain_model.specs.Chain.{AllCount, IsBelow, counting}
use Rattle.chain_model.specs.Folder.{Volumes}
use Rattle.chain_model.specs.Records.{Records, is_legal, is_passed, records_of}
use Rattle.chain_records.specs.Paths.{HasChain}
use Rattle.chain_records.specs.Records.{records_in}
use Rattle.chain_records.specs.Settling.{ArePartlyRewritten, AreRewritten, HasPassedParent, IsNamed, IsRewritten}
use Rattle.chain_records.proofs.Partly.{legal_alike, passed_alike}
use Rattle.chain_records.proofs.Settled.{below_after, counted, counts_after, parent_rewritten}
use Rattle.volume_chain.specs.Chain.{records_kept}
use Rattle.volume_chain.specs.declared.chain.Chain.{Chain}
use Rattle.chain_settling.specs.Alike.{KnowsImage}
use Rattle.chain_settling.specs.Knowing.{IsSettledImage}
use Rattle.chain_settling.specs.Was.{folder_in, image_kept}
use Rattle.chain_settling.specs.Work.{IsBackingFor, IsChange, IsLayerAt, IsRight, IsRightType}
use Rattle.chain_settling.specs.declared.stages.Part.{Part}
use Rattle.chain_settling.specs.declared.stages.Part.TheVariants.{Parents, Types}
use Rattle.chain_settling.specs.declared.texts.Change.{Change}
use Rattle.chain_settling.specs.declared.texts.Change.TheVariants.{Parent, Voltype}
use Rattle.chain_settling.proofs.Opened.{legal_record}
use Rattle.chain_settling.proofs.Plans.{backing_before, named_after, named_before, parent_by, partly, right_before}
use Rattle.chain_settling.proofs.UpNames.{up_among}

-- a record that names a volume that is passed over isn't rewritten yet
passed_before : (r s : Records) (v : Id) → ((u : Id) → HasChain r u) → ArePartlyRewritten r s → HasPassedParent s v → HasPassedParent r v
passed_before r s v chains are has = go (are v)
  where
    passed : is_passed r has.0 ≡ true
    passed = sym (passed_alike r s has.0 (chains has.0).0 (are has.0) (chains has.0).1) ∙ has.2

    go : (s v ≡ r v) ⊎ IsRewritten r v (r v) (s v) → HasPassedParent r v
    go (inl same) = (has.0, ap (λ (o : Option VolumeRecord). parent_by o) (sym same) ∙ has.1, passed)
    go (inr is) =
        let chain = chains v in
        let up = sym (parent_rewritten r s v chain.0 is chain.1) ∙ has.1 in
        absurd (false≢true (sym (counted r has.0 chain.0 (up_among r has.0 chain.0 up)).1 ∙ passed))

-- a LEGAL volume has one right VOLTYPE
one_type : (r : Records) (v : Id) (a b : VolType) → is_legal r v ≡ true → IsRightType r v a → IsRightType r v b → a ≢ b → ⊥
one_type r v a b legal x y other = other (x.leaf legal none ∙ sym (y.leaf legal none))
  where
    none : IsNamed r v → ⊥
    none named = other (x.internal legal named ∙ sym (y.internal legal named))

pub change_needed : (p : Part) (c : Chain) (v : Id) (change : Change) (r : Records) (x : Volumes) (d : Content) → KnowsImage c r x d → IsChange p (records_in (records_kept c)) v (Some change) → IsRight r v → ⊥
change_needed Parents c v (Parent up) r x d k is right = right.parent (passed_before r (records_in (records_kept c)) v k.chains k.partly is.1)
change_needed Parents c v (Voltype t) r x d k is right = is
change_needed Types c v (Parent up) r x d k is right = is
change_needed Types c v (Voltype t) r x d k is right =
    one_type r v has.0.voltype t legal now (right_before r (records_in (records_kept c)) v t k.chains k.partly is.1) (is.2 has.0 has.1)
  where
    legal : is_legal r v ≡ true
    legal = sym (legal_alike r (records_in (records_kept c)) v k.partly) ∙ is.0

    has : (z : VolumeRecord) × (records_in (records_kept c) v ≡ Some z)
    has = legal_record (records_in (records_kept c) v) is.0

    now : IsRightType r v has.0.voltype
    now = go (k.types v was.0 has.0 was.1 has.1)
      where
        was : (y : VolumeRecord) × (r v ≡ Some y)
        was = legal_record (r v) legal

        go : (has.0.voltype ≡ was.0.voltype) ⊎ ((is_legal r v ≡ true) × IsRightType r v has.0.voltype) → IsRightType r v has.0.voltype
        go (inl same) = subst (λ (t : VolType). IsRightType r v t) (sym same) (right.voltype was.0 was.1)
        go (inr is_right) = is_right.1

-- ---- once it is settled

passed_after : (r s : Records) (v : Id) → ((u : Id) → HasChain r u) → AreRewritten r s → HasPassedParent s v → ⊥
passed_after r s v chains are has = go (counting r chain.0) (below_after r s v chain.0 are chain.1) (counts_after r s v chain.0 are chain.1)
  where
    chain : HasChain r v
    chain = chains v

    go : (us : List Id) → IsBelow s v us → AllCount s us → ⊥
    go [] below count = none-some has.0 (sym below ∙ has.1)
    go (u ∷ us) below count =
        let same : u ≡ has.0 = same_Some u has.0 (sym below.0 ∙ has.1) in
        false≢true (sym (count u (contains_here u us)) ∙ ap (λ (w : Id). is_passed s w) same ∙ has.2)

pub right_after : (r s : Records) (v : Id) → ((u : Id) → HasChain r u) → AreRewritten r s → ((x : VolumeRecord) → s v ≡ Some x → IsRightType r v x.voltype) → IsRight s v
right_after r s v chains are typed = record {
  parent = passed_after r s v chains are;
  voltype = λ x is. let old = typed x is in record {
    internal = λ legal named. old.internal (sym (legal_alike r s v (partly r s are)) ∙ legal) (named_before r s v chains (partly r s are) named);
    leaf = λ legal none. old.leaf (sym (legal_alike r s v (partly r s are)) ∙ legal) (λ named. none (named_after r s v (partly r s are) named));
  };
}

pub right_of_settled : (c : Chain) (host : ℕ) (r : Records) (x : Volumes) (d : Content) (v : Id) → IsSettledImage c host r x d → IsRight (records_of (image_kept c) (volumes_in (folder_in c) d)) v
right_of_settled c host r x d v k =
    subst (λ (s : Records). IsRight s v) (λ j u. sym (k.said u) j) (right_after r (records_in (records_kept c)) v k.image.chains k.rewritten (k.typed v))

-- nor a header, since each names the parent that counts
pub heads_of_settled : (c : Chain) (host : ℕ) (r : Records) (x : Volumes) (d : Content) (b : ℕ) (l : Layer) (back : Backing) → IsSettledImage c host r x d → IsLayerAt c b l
    → IsBackingFor (records_of (image_kept c) (volumes_in (folder_in c) d)) l (Some back) → ⊥
heads_of_settled c host r x d b l back k is needs =
    let now = subst (λ (s : Records). IsBackingFor s l (Some back)) (λ j u. k.said u j) needs in
    let old = backing_before r (records_in (records_kept c)) l back k.image.chains k.image.partly now in
    old.1 (k.told b l is back.parent old.2 old.0 old.3)
