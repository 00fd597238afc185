-- Settling volume by volume: first each parent, and then each VOLTYPE.
use Rattle.std.proofs.Common.{◌≡◌, ◌⊎◌, Bool, true, false, List, Option, Some, None, unwrap_or, refl, sym, ap, ◌∙◌, subst, inl, inr}
use Rattle.std.specs.Prelude.{if◌then◌else◌}
use Rattle.std.specs.Option.{option_map}
use Rattle.std.proofs.lemmas.Bool.{false≢true}
use Rattle.sd_names.specs.Id.{zero_id}
use Rattle.sd_names.specs.declared.id.Id.{Id}
use Rattle.sd_names.specs.declared.kinds.VolType.{VolType}
use Rattle.shared_disk.specs.Places.{id_is}
use Rattle.shared_disk.proofs.Places.{id_is-same}
use Rattle.volume_meta.specs.declared.record.VolumeRecord.{VolumeRecord}
use Rattle.chain_model.specs.Chain.{IsBelow}
use Rattle.chain_model.specs.Records.{Records, is_passed, parent}
use Rattle.chain_model.specs.Up.{up_of}
use Rattle.chain_model.proofs.Chains.{no_id, same_id}
use Rattle.chain_records.specs.Rewriting.{changed, naming, typed}
use Rattle.chain_records.specs.Settling.{ArePartlyRewritten, AreRewritten, HasPassedParent, IsRewritten}
use Rattle.chain_records.proofs.Settled.{parent_stays}

abbrev NamesUp : Records → Id → Id → Type 0
NamesUp r v up = (vs : List Id) → IsBelow r v vs → up ≡ unwrap_or (up_of r vs) zero_id

pub named : (r : Records) (u up : Id) (o a : Option VolumeRecord) → NamesUp r u up → (a ≡ o) ⊎ IsRewritten r u o a → IsRewritten r u o (option_map (naming up) a)
named r u up None a is (inl same) = ap (λ (z : Option VolumeRecord). option_map (naming up) z) same
named r u up None a is (inr done) = ap (λ (z : Option VolumeRecord). option_map (naming up) z) done
named r u up (Some x) a is (inl same) = (up, x.voltype, ap (λ (z : Option VolumeRecord). option_map (naming up) z) same, is)
named r u up (Some x) a is (inr done) = (up, done.1, ap (λ (z : Option VolumeRecord). option_map (naming up) z) done.2, is)

pub parent_step : (r s : Records) (v up : Id) → ArePartlyRewritten r s → NamesUp r v up → ArePartlyRewritten r (changed v (naming up) s)
parent_step r s v up are is u = go (id_is v u) refl (are u)
  where
    go : (b : Bool) → id_is v u ≡ b → (s u ≡ r u) ⊎ IsRewritten r u (r u) (s u)
        → ((if b then option_map (naming up) (s u) else s u) ≡ r u) ⊎ IsRewritten r u (r u) (if b then option_map (naming up) (s u) else s u)
    go false t now = now
    go true t now = inr (named r u up (r u) (s u) (subst (λ (w : Id). NamesUp r w up) (id_is-same v u t) is) now)

pub retyped : (r : Records) (u : Id) (t : VolType) (o a : Option VolumeRecord) → IsRewritten r u o a → IsRewritten r u o (option_map (typed t) a)
retyped r u t None a done = ap (λ (z : Option VolumeRecord). option_map (typed t) z) done
retyped r u t (Some x) a done = (done.0, t, ap (λ (z : Option VolumeRecord). option_map (typed t) z) done.2, done.3)

pub type_step : (r s : Records) (v : Id) (t : VolType) → AreRewritten r s → AreRewritten r (changed v (typed t) s)
type_step r s v t are u = go (id_is v u)
  where
    go : (b : Bool) → IsRewritten r u (r u) (if b then option_map (typed t) (s u) else s u)
    go false = are u
    go true = retyped r u t (r u) (s u) (are u)

kept : (r : Records) (v : Id) → (HasPassedParent r v → ⊥) → (o : Option VolumeRecord) → r v ≡ o → IsRewritten r v o o
kept r v none None e = refl
kept r v none (Some x) e = (x.parent, x.voltype, refl, λ vs b. parent_stays r v x vs e b none)

all_done : (r s : Records) → ArePartlyRewritten r s → ((v : Id) → HasPassedParent r v → IsRewritten r v (r v) (s v)) → ((v : Id) → (HasPassedParent r v → ⊥) ⊎ HasPassedParent r v) → AreRewritten r s
all_done r s are done has v = go (are v) (has v)
  where
    go : (s v ≡ r v) ⊎ IsRewritten r v (r v) (s v) → (HasPassedParent r v → ⊥) ⊎ HasPassedParent r v → IsRewritten r v (r v) (s v)
    go (inr is) other = is
    go (inl same) (inr passed) = done v passed
    go (inl same) (inl none) = subst (λ (o : Option VolumeRecord). IsRewritten r v (r v) o) (sym same) (kept r v none (r v) refl)

-- whether a volume's parent is passed over
passed_or_not : (r : Records) (v : Id) → (HasPassedParent r v → ⊥) ⊎ HasPassedParent r v
passed_or_not r v = go (parent r v) refl
  where
    at : (w : Id) → parent r v ≡ Some w → (t : Bool) → is_passed r w ≡ t → (HasPassedParent r v → ⊥) ⊎ HasPassedParent r v
    at w e true t = inr (w, e, t)
    at w e false t = inl (λ has. false≢true (sym t ∙ ap (λ (u : Id). is_passed r u) (same_id (parent r v) w has.0 e has.1) ∙ has.2))

    go : (o : Option Id) → parent r v ≡ o → (HasPassedParent r v → ⊥) ⊎ HasPassedParent r v
    go None e = inl (λ has. no_id (parent r v) has.0 e has.1)
    go (Some w) e = at w e (is_passed r w) refl

pub parents_done : (r s : Records) → ArePartlyRewritten r s → ((v : Id) → HasPassedParent r v → IsRewritten r v (r v) (s v)) → AreRewritten r s
parents_done r s are done = all_done r s are done (passed_or_not r)
