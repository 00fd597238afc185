-- One volume of a path is open as another.
use Rattle.std.proofs.Common.{◌≡◌, ◌≢◌, ℕ, zero, suc, List, [], ◌∷◌, length, slice_get, slice_set, Some, refl, sym, ap, subst}
use Rattle.std.specs.List.{Contains}
use Rattle.sd_names.specs.declared.id.Id.{Id}
use Rattle.shared_disk.proofs.Outcomes.{contains_here, contains_more}
use Rattle.volume_chain.specs.Chain.{OnPath}
use Rattle.volume_chain.specs.declared.volumes.OpenVolume.{OpenVolume}
use Rattle.volume_chain.proofs.Along.{next_among}
use Rattle.volume_chain.proofs.Apart.{AreApart}

-- what holds of the volume with an index
pub along_at : (R : Id → OpenVolume → Type 0) (path : List Id) (os : List OpenVolume) (k : ℕ) (v : Id) (o : OpenVolume) → OnPath R path os → slice_get path k ≡ Some v → slice_get os k ≡ Some o → R v o
along_at R [] os k v o along at is = absurd cc
along_at R (w ∷ ws) [] k v o along at is = absurd cc
along_at R (w ∷ ws) (p ∷ ps) zero v o along at is =
    let one : w ≡ v = cc in
    let two : p ≡ o = cc in
    subst (λ (q : OpenVolume). R v q) two (subst (λ (u : Id). R u p) one along.0)
along_at R (w ∷ ws) (p ∷ ps) (suc k) v o along at is = along_at R ws ps k v o along.1 at is

-- it may be open as another of which that holds
pub along_set : (R : Id → OpenVolume → Type 0) (path : List Id) (os : List OpenVolume) (k : ℕ) (v : Id) (o : OpenVolume) → OnPath R path os → slice_get path k ≡ Some v → R v o → OnPath R path (slice_set os k o)
along_set R path [] k v o along at is = tt
along_set R [] (p ∷ ps) k v o along at is = absurd along
along_set R (w ∷ ws) (p ∷ ps) zero v o along at is = let one : w ≡ v = cc in (subst (λ (u : Id). R u o) (sym one) is, along.1)
along_set R (w ∷ ws) (p ∷ ps) (suc k) v o along at is = (along.0, along_set R ws ps k v o along.1 at is)

pub set_length : (os : List OpenVolume) (k : ℕ) (o : OpenVolume) → length (slice_set os k o) ≡ length os
set_length [] k o = refl
set_length (p ∷ ps) zero o = refl
set_length (p ∷ ps) (suc k) o = ap suc (set_length ps k o)

pub set_here : (os : List OpenVolume) (k : ℕ) (o p : OpenVolume) → slice_get os k ≡ Some p → slice_get (slice_set os k o) k ≡ Some o
set_here [] k o p is = absurd cc
set_here (q ∷ qs) zero o p is = refl
set_here (q ∷ qs) (suc k) o p is = set_here qs k o p is

-- what holds of all volumes but one that isn't among them holds of all
all_others : (R : Id → OpenVolume → Type 0) (v : Id) (path : List Id) (os : List OpenVolume) → (Contains path v → ⊥) → OnPath (λ u o. u ≢ v → R u o) path os → OnPath R path os
all_others R v path [] not along = tt
all_others R v [] (p ∷ ps) not along = absurd along
all_others R v (w ∷ ws) (p ∷ ps) not along =
    (along.0 (λ same. not (subst (λ (u : Id). Contains (w ∷ ws) u) same (contains_here w ws))), all_others R v ws ps (λ among. not (contains_more w v ws among)) along.1)

-- what holds of all volumes but one, and of that one, holds of all
pub along_with : (R : Id → OpenVolume → Type 0) (path : List Id) (os : List OpenVolume) (k : ℕ) (v : Id) (o : OpenVolume) → AreApart path → slice_get path k ≡ Some v → slice_get os k ≡ Some o → R v o
    → OnPath (λ u p. u ≢ v → R u p) path os → OnPath R path os
along_with R path [] k v o apart at is here along = tt
along_with R [] (p ∷ ps) k v o apart at is here along = absurd along
along_with R (w ∷ ws) (p ∷ ps) zero v o apart at is here along =
    let one : w ≡ v = cc in
    let two : p ≡ o = cc in (
      subst (λ (q : OpenVolume). R w q) (sym two) (subst (λ (u : Id). R u o) (sym one) here),
      all_others R v ws ps (subst (λ (u : Id). Contains ws u → ⊥) one apart.0) along.1,
    )
along_with R (w ∷ ws) (p ∷ ps) (suc k) v o apart at is here along = (
  along.0 (λ same. apart.0 (subst (λ (u : Id). Contains ws u) (sym same) (next_among ws k v at))),
  along_with R ws ps k v o apart.1 at is here along.1,
)

pub set_there : (os : List OpenVolume) (k j : ℕ) (o : OpenVolume) → j ≢ k → slice_get (slice_set os k o) j ≡ slice_get os j
set_there [] k j o other = refl
set_there (p ∷ os) zero zero o other = absurd (other refl)
set_there (p ∷ os) zero (suc j) o other = refl
set_there (p ∷ os) (suc k) zero o other = refl
set_there (p ∷ os) (suc k) (suc j) o other = set_there os k j o (λ e. other (ap (λ (n : ℕ). suc n) e))
