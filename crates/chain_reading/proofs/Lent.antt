-- A layer of a chain that was lent and is as it was.
use Rattle.std.proofs.Common.{◌≡◌, ℕ, zero, suc, List, [], ◌∷◌, slice_get, slice_set, Some, None, refl, sym, ap, ◌∙◌, subst}
use Rattle.sd_names.specs.Turn.{MatchTurn}
use Rattle.sd_names.specs.declared.turn.Turn.{Turn}
use Rattle.sd_names.specs.declared.turn.Turn.TheVariants.{More, Done, Ended}
use Rattle.shared_disk.specs.Content.{Content}
use Rattle.qcow_layer.specs.Looking.{LooksOn}
use Rattle.qcow_layer.specs.Opening.{target_kept}
use Rattle.qcow_layer.specs.Stages.{IsGone}
use Rattle.qcow_layer.specs.declared.layer.Layer.{Layer}
use Rattle.qcow_layer.specs.declared.looking.Looked.{Looked}
use Rattle.qcow_layer.specs.declared.looking.Looking.{Looking}
use Rattle.volume_chain.specs.Chain.{open_in}
use Rattle.volume_chain.specs.declared.chain.Chain.{Chain}
use Rattle.volume_chain.specs.declared.volumes.OpenVolume.{OpenVolume}
use Rattle.volume_chain.specs.declared.volumes.OpenVolume.TheVariants.{Raw, Cow}
use Rattle.chain_reading.specs.Looking.{LooksAt}

set_same : (os : List OpenVolume) (k : ℕ) (o : OpenVolume) → slice_get os k ≡ Some o → slice_set os k o ≡ os
set_same [] k o e = absurd cc
set_same (p ∷ ps) zero o e = let same : p ≡ o = cc in ap (λ (q : OpenVolume). q ∷ ps) (sym same)
set_same (p ∷ ps) (suc k) o e = ap (λ (qs : List OpenVolume). p ∷ qs) (set_same ps k o e)

-- the chain is as it was
pub chain_same : (c : Chain) (k : ℕ) (l m : Layer) → slice_get (open_in c) k ≡ Some (Cow l) → m ≡ l → record c { volumes = slice_set c.volumes k (Cow m) } ≡ c
chain_same c k l m there same =
    ap (λ (os : List OpenVolume). record c { volumes = os }) (ap (λ (y : Layer). slice_set c.volumes k (Cow y)) same ∙ set_same c.volumes k (Cow l) there)

goes : (c : Chain) (k : ℕ) (host : ℕ) (l : Layer) (turn : Turn Looking Looked (Unit {0})) (d : Content) → slice_get (open_in c) k ≡ Some (Cow l) → MatchTurn turn (λ _. Unit {0}) (λ _. Unit {0}) (λ _ refusal. IsGone (target_kept l) refusal d)
    → MatchTurn turn (λ _. Unit {0}) (λ _. Unit {0}) (λ _ refusal. (y : Layer) × (slice_get (open_in c) k ≡ Some (Cow y)) × IsGone (target_kept y) refusal d)
goes c k host l (More n) d there gone = tt
goes c k host l (Done o) d there gone = tt
goes c k host l (Ended b r) d there gone = (l, there, gone)

one_layer : (os : List OpenVolume) (k : ℕ) (l y : Layer) → slice_get os k ≡ Some (Cow l) → slice_get os k ≡ Some (Cow y) → l ≡ y
one_layer os k l y e f = cc

pub looks_at : (c : Chain) (k : ℕ) (looking : Looking) (host : ℕ) (turn : Turn Looking Looked (Unit {0})) (d e : Content) (l : Layer) → slice_get (open_in c) k ≡ Some (Cow l) → LooksOn looking l host turn d e
    → LooksAt c k looking host turn d e
looks_at c k looking host turn d e l there on = record {
  same = on.same;
  looks = λ y is. subst (λ (z : Layer). LooksOn looking z host turn d e) (one_layer (open_in c) k l y there is) on;
  gone = goes c k host l turn d there on.gone;
}

pub looks_nowhere : (c : Chain) (k : ℕ) (looking : Looking) (host : ℕ) (looked : Looked) (d : Content) → ((l : Layer) → slice_get (open_in c) k ≡ Some (Cow l) → ⊥) → LooksAt c k looking host (Done looked) d d
looks_nowhere c k looking host looked d none = record { same = refl; looks = λ y is. absurd (none y is); gone = tt }

-- another volume is no layer
pub no_raw : (c : Chain) (k n : ℕ) → slice_get (open_in c) k ≡ Some (Raw n) → (l : Layer) → slice_get (open_in c) k ≡ Some (Cow l) → ⊥
no_raw c k n raw l is = cc

pub no_layer : (c : Chain) (k : ℕ) → slice_get (open_in c) k ≡ None → (l : Layer) → slice_get (open_in c) k ≡ Some (Cow l) → ⊥
no_layer c k none l is = cc
