-- What is known of the texts as settling goes from volume to volume.
use Rattle.std.proofs.Common.{◌≡◌, ◌≢◌, ◌⊎◌, ℕ, ◌<◌, Bool, true, false, List, length, Option, Some, None, unwrap_or, refl, sym, ap, ◌∙◌, subst, inl, inr}
use Rattle.std.specs.Prelude.{if◌then◌else◌, option_and_then, slice_get}
use Rattle.std.specs.Option.{option_map}
use Rattle.std.proofs.lemmas.Option.{none-some, same_Some, slice_get-get_or}
use Rattle.sd_names.specs.Id.{zero_id}
use Rattle.sd_names.specs.declared.id.Id.{Id}
use Rattle.sd_names.specs.declared.kinds.VolType.{VolType}
use Rattle.shared_disk.specs.Places.{id_is}
use Rattle.shared_disk.proofs.Places.{id_is-itself, id_is-same}
use Rattle.layer_creating.specs.declared.backing.Backing.{Backing}
use Rattle.qcow_layer.specs.Opening.{volume_kept}
use Rattle.qcow_layer.specs.declared.layer.Layer.{Layer}
use Rattle.volume_meta.specs.declared.record.VolumeRecord.{VolumeRecord}
use Rattle.chain_model.proofs.Chains.{one_below, same_id}
use Rattle.chain_model.specs.Chain.{IsBelow}
use Rattle.chain_model.specs.Records.{Records, is_passed, parent, parent_in}
use Rattle.chain_model.specs.Up.{up_of}
use Rattle.chain_records.specs.Paths.{HasChain}
use Rattle.chain_records.specs.Records.{ids_of, records_in}
use Rattle.chain_records.specs.Rewriting.{changed, naming, typed}
use Rattle.chain_records.specs.Settling.{ArePartlyRewritten, AreRewritten, IsNamed, IsOver, IsRewritten}
use Rattle.chain_records.specs.declared.volume.Volume.{Volume}
use Rattle.chain_records.proofs.Lists.{length_ids, record_among}
use Rattle.chain_records.proofs.Partly.{legal_alike, passed_alike, path_alike, still_chain}
use Rattle.chain_records.proofs.Settled.{up_reached}
use Rattle.chain_records.proofs.Stepwise.{named}
use Rattle.chain_settling.specs.Knowing.{IsDone, IsTyped}
use Rattle.chain_settling.specs.Work.{IsBackingFor, IsParentChange, IsRightType}
use Rattle.chain_settling.proofs.Alike.{same_or_not}

-- ---- the parent that counts, by the records as they are rewritten

abbrev pub parent_by : Option VolumeRecord → Option Id
parent_by o = option_and_then parent_in o

pub up_alike : (r s : Records) (v : Id) (vs ws : List Id) → ArePartlyRewritten r s → IsBelow r v vs → IsBelow s v ws → up_of s ws ≡ up_of r vs
up_alike r s v vs ws are b c = ap (λ (ps : List Id). slice_get ps 1) (path_alike r s v vs ws are b c)

pub over_before : (r s : Records) (v up : Id) → HasChain r v → ArePartlyRewritten r s → IsOver s v up → IsOver r v up
over_before r s v up chain are over = (chain.0, chain.1, sym (up_alike r s v chain.0 over.0 are chain.1 over.1) ∙ over.2)

pub over_after : (r s : Records) (v up : Id) → ArePartlyRewritten r s → IsOver r v up → IsOver s v up
over_after r s v up are over =
    let chain = still_chain r s v over.0 are over.1 in
    (chain.0, chain.1, up_alike r s v over.0 chain.0 are over.1 chain.1 ∙ over.2)

-- a parent that counts is the one that a record has to name
pub names_up : (r s : Records) (v up : Id) → ArePartlyRewritten r s → IsOver s v up → (vs : List Id) → IsBelow r v vs → up ≡ unwrap_or (up_of r vs) zero_id
names_up r s v up are over vs b = ap (λ (o : Option Id). unwrap_or o zero_id) (sym over.2 ∙ up_alike r s v vs over.0 are b over.1)

-- ---- parents

-- where a record doesn't name a volume that is passed over, or none counts, it is done
pub stays_done : (r s : Records) (v : Id) → ((u : Id) → HasChain r u) → ArePartlyRewritten r s → IsParentChange s v None → IsDone r s v
stays_done r s v chains are none has = go (are v)
  where
    go : (s v ≡ r v) ⊎ IsRewritten r v (r v) (s v) → IsRewritten r v (r v) (s v)
    go (inr is) = is
    go (inl same) =
        let w = has.0 in
        let own : parent s v ≡ Some w = ap (λ (o : Option VolumeRecord). parent_by o) same ∙ has.1 in
        let passed : is_passed s w ≡ true = passed_alike r s w (chains w).0 (are w) (chains w).1 ∙ has.2 in
        let chain = still_chain r s v (chains v).0 are (chains v).1 in
        let up = up_reached s v chain.0 chain.1 (w, own, passed) in
        absurd (none (w, own, passed) up.0 up.1)

-- the records of which one is changed
pub changed_here : (v : Id) (f : VolumeRecord → VolumeRecord) (s : Records) → changed v f s v ≡ option_map f (s v)
changed_here v f s = rw (id_is-itself v) refl

pub changed_there : (v u : Id) (f : VolumeRecord → VolumeRecord) (s : Records) → u ≢ v → changed v f s u ≡ s u
changed_there v u f s other = go (id_is v u) refl
  where
    go : (b : Bool) → id_is v u ≡ b → (if b then option_map f (s u) else s u) ≡ s u
    go true e = absurd (other (sym (id_is-same v u e)))
    go false e = refl

-- a record as it was, or changed
pub was : (v : Id) (f : VolumeRecord → VolumeRecord) (s : Records) (u : Id) (y : VolumeRecord) → changed v f s u ≡ Some y → (z : VolumeRecord) × (s u ≡ Some z) × ((y ≡ z) ⊎ (y ≡ f z))
was v f s u y e = go (same_or_not u v)
  where
    from : (o : Option VolumeRecord) → option_map f o ≡ Some y → (z : VolumeRecord) × (o ≡ Some z) × ((y ≡ z) ⊎ (y ≡ f z))
    from None h = absurd cc
    from (Some z) h = (z, refl, inr (sym (same_Some (f z) y h)))

    go : (u ≡ v) ⊎ (u ≢ v) → (z : VolumeRecord) × (s u ≡ Some z) × ((y ≡ z) ⊎ (y ≡ f z))
    go (inl same) = subst (λ (w : Id). (z : VolumeRecord) × (s w ≡ Some z) × ((y ≡ z) ⊎ (y ≡ f z))) (sym same)
        (from (s v) (sym (changed_here v f s) ∙ subst (λ (w : Id). changed v f s w ≡ Some y) same e))
    go (inr other) = (y, sym (changed_there v u f s other) ∙ e, inl refl)

-- what is done stays so, and the volume that is rewritten is done
pub done_on : (r s : Records) (v u up : Id) → ArePartlyRewritten r s → ((vs : List Id) → IsBelow r v vs → up ≡ unwrap_or (up_of r vs) zero_id) → IsDone r s u ⊎ (u ≡ v) → IsDone r (changed v (naming up) s) u
done_on r s v u up are is was has = go (same_or_not u v) was
  where
    here : IsRewritten r v (r v) (changed v (naming up) s v)
    here = subst (λ (o : Option VolumeRecord). IsRewritten r v (r v) o) (sym (changed_here v (naming up) s)) (named r v up (r v) (s v) is (are v))

    go : (u ≡ v) ⊎ (u ≢ v) → IsDone r s u ⊎ (u ≡ v) → IsRewritten r u (r u) (changed v (naming up) s u)
    go (inl same) done = subst (λ (w : Id). IsRewritten r w (r w) (changed v (naming up) s w)) (sym same) here
    go (inr other) (inl done) = subst (λ (o : Option VolumeRecord). IsRewritten r u (r u) o) (sym (changed_there v u (naming up) s other)) (done has)
    go (inr other) (inr same) = absurd (other same)

-- ---- VOLTYPEs

pub named_before : (r s : Records) (v : Id) → ((u : Id) → HasChain r u) → ArePartlyRewritten r s → IsNamed s v → IsNamed r v
named_before r s v chains are is = (is.0, over_before r s is.0 v (chains is.0) are is.1)

pub named_after : (r s : Records) (v : Id) → ArePartlyRewritten r s → IsNamed r v → IsNamed s v
named_after r s v are is = (is.0, over_after r s is.0 v are is.1)

pub right_before : (r s : Records) (v : Id) (t : VolType) → ((u : Id) → HasChain r u) → ArePartlyRewritten r s → IsRightType s v t → IsRightType r v t
right_before r s v t chains are is = record {
  internal = λ legal has. is.internal (legal_alike r s v are ∙ legal) (named_after r s v are has);
  leaf = λ legal none. is.leaf (legal_alike r s v are ∙ legal) (λ has. none (named_before r s v chains are has));
}

pub partly : (r s : Records) → AreRewritten r s → ArePartlyRewritten r s
partly r s are v = inr (are v)

pub voltype_in : (o : Option VolumeRecord) (t : VolType) (y : VolumeRecord) → option_map (typed t) o ≡ Some y → y.voltype ≡ t
voltype_in None t y e = absurd cc
voltype_in (Some x) t y e = ap (λ (z : VolumeRecord). z.voltype) (sym (same_Some (typed t x) y e))

-- what is typed stays so, and the volume that is rewritten is typed
pub typed_on : (r s : Records) (v u : Id) (t : VolType) → IsRightType r v t → IsTyped r s u ⊎ (u ≡ v) → IsTyped r (changed v (typed t) s) u
typed_on r s v u t right was y e = go (same_or_not u v) was
  where
    go : (u ≡ v) ⊎ (u ≢ v) → IsTyped r s u ⊎ (u ≡ v) → IsRightType r u y.voltype
    go (inl same) done =
        let at : option_map (typed t) (s v) ≡ Some y = sym (changed_here v (typed t) s) ∙ subst (λ (w : Id). changed v (typed t) s w ≡ Some y) same e in
        subst (λ (w : Id). IsRightType r w y.voltype) (sym same) (subst (λ (z : VolType). IsRightType r v z) (sym (voltype_in (s v) t y at)) right)
    go (inr other) (inl done) = done y (sym (changed_there v u (typed t) s other) ∙ e)
    go (inr other) (inr same) = absurd (other same)

-- ---- the places of a list

-- a volume with a record has a place
pub place_of : (xs : List Volume) (v : Id) (y : VolumeRecord) → records_in xs v ≡ Some y → (k : ℕ) × (k < length xs) × (slice_get (ids_of xs) k ≡ Some v)
place_of xs v y e =
    let among = record_among xs v y e in
    (among.0, subst (λ (n : ℕ). among.0 < n) (length_ids xs) among.1, slice_get-get_or (ids_of xs) among.0 v among.1 ∙ ap (λ (w : Id). Some w) among.2)

-- a volume has one parent that counts
pub over_one : (r : Records) (v a b : Id) → IsOver r v a → IsOver r v b → a ≡ b
over_one r v a b x y = same_id (up_of r x.0) a b x.2 (ap (λ (vs : List Id). up_of r vs) (one_below r v x.0 y.0 x.1 y.1) ∙ y.2)

-- a record that is rewritten or not is there where it was, with the same format and capacity
pub record Rewritten (o a : Option VolumeRecord) (z : VolumeRecord) : Type 0 where
  pub was : VolumeRecord
  pub is : o ≡ Some was
  pub format : z.format ≡ was.format
  pub capacity : z.capacity ≡ was.capacity

pub record_was : (r : Records) (v : Id) (o a : Option VolumeRecord) (z : VolumeRecord) → (a ≡ o) ⊎ IsRewritten r v o a → a ≡ Some z → Rewritten o a z
record_was r v o a z (inl same) e = record { was = z; is = sym same ∙ e; format = refl; capacity = refl }
record_was r v None a z (inr is) e = absurd (none-some z (sym is ∙ e))
record_was r v (Some y) a z (inr is) e =
    let same = same_Some z (record y { parent = is.0; voltype = is.1 }) (sym e ∙ is.2) in
    record { was = y; is = refl; format = ap (λ (q : VolumeRecord). q.format) same; capacity = ap (λ (q : VolumeRecord). q.capacity) same }

-- what a header has to be made to name, by the records as they were
pub backing_before : (r s : Records) (l : Layer) (b : Backing) → ((u : Id) → HasChain r u) → ArePartlyRewritten r s → IsBackingFor s l (Some b) → IsBackingFor r l (Some b)
backing_before r s l b chains are is =
    let below = record_was r b.parent (r b.parent) (s b.parent) is.2 (are b.parent) is.3 in
    (over_before r s (volume_kept l) b.parent (chains (volume_kept l)) are is.0, is.1, below.was, below.is, is.4 ∙ below.format)
