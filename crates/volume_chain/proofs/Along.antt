-- Volumes along a path.
use Rattle.std.proofs.Common.{◌≡◌, ◌⊎◌, ℕ, zero, suc, ◌+◌, ◌<◌, ◌≤◌, List, [], ◌∷◌, ◌++◌, length, drop, slice_get, Some, None, refl, sym, ap, ◌∙◌, subst, inl, inr, arith}
use Rattle.std.specs.List.{Contains}
use Rattle.sd_names.specs.declared.id.Id.{Id}
use Rattle.shared_disk.proofs.Outcomes.{contains_here, contains_more, nothing_in, cons_cases}
use Rattle.volume_chain.specs.Chain.{OnPath}
use Rattle.volume_chain.specs.declared.volumes.OpenVolume.{OpenVolume}

-- one volume more
pub along_snoc : (R : Id → OpenVolume → Type 0) (path : List Id) (os : List OpenVolume) (v : Id) (o : OpenVolume)
    → slice_get path (length os) ≡ Some v → OnPath R path os → R v o → OnPath R path (os ++ o ∷ [])
along_snoc R [] [] v o next along is = absurd cc
along_snoc R (w ∷ ws) [] v o next along is = let same : w ≡ v = cc in (subst (λ (u : Id). R u o) (sym same) is, tt)
along_snoc R [] (p ∷ os) v o next along is = absurd along
along_snoc R (w ∷ ws) (p ∷ os) v o next along is = (along.0, along_snoc R ws os v o next along.1 is)

pub along_short : (R : Id → OpenVolume → Type 0) (path : List Id) (os : List OpenVolume) → OnPath R path os → length os ≤ length path
along_short R path [] along = omega arith
along_short R [] (o ∷ os) along = absurd along
along_short R (v ∷ vs) (o ∷ os) along = let less = along_short R vs os along.1 in omega (arith, less)

-- where none is left, all are there
pub along_all : (R : Id → OpenVolume → Type 0) (path : List Id) (os : List OpenVolume) → OnPath R path os → slice_get path (length os) ≡ None → length os ≡ length path
along_all R [] [] along none = refl
along_all R (v ∷ vs) [] along none = absurd cc
along_all R [] (o ∷ os) along none = absurd along
along_all R (v ∷ vs) (o ∷ os) along none = let same = along_all R vs os along.1 none in omega (arith, same)

pub along_of : (R : Id → OpenVolume → Type 0) (path : List Id) (os : List OpenVolume) (v : Id) → OnPath R path os → length os ≡ length path → Contains path v → (o : OpenVolume) × R v o
along_of R [] os v along all h = absurd (nothing_in v h)
along_of R (w ∷ ws) [] v along all h = absurd (omega (arith, all))
along_of R (w ∷ ws) (o ∷ os) v along all h = go (cons_cases w v ws h) (along_of R ws os v along.1 (omega (arith, all)))
  where
    go : (w ≡ v) ⊎ Contains ws v → (Contains ws v → (p : OpenVolume) × R v p) → (p : OpenVolume) × R v p
    go (inl e) rest = (o, subst (λ (u : Id). R u o) e along.0)
    go (inr c) rest = rest c

pub along_both : (R S T : Id → OpenVolume → Type 0) → ((v : Id) (o : OpenVolume) → R v o → S v o → T v o) → (path : List Id) (os : List OpenVolume)
    → OnPath R path os → OnPath S path os → OnPath T path os
along_both R S T f path [] a b = tt
along_both R S T f [] (o ∷ os) a b = absurd a
along_both R S T f (v ∷ vs) (o ∷ os) a b = (f v o a.0 b.0, along_both R S T f vs os a.1 b.1)

-- the next volume begins the rest of the path
pub next_begins : (path : List Id) (n : ℕ) (v : Id) → slice_get path n ≡ Some v → drop n path ≡ v ∷ drop (n + 1) path
next_begins [] n v next = absurd cc
next_begins (w ∷ ws) zero v next = let same : w ≡ v = cc in ap (λ (u : Id). u ∷ ws) same
next_begins (w ∷ ws) (suc n) v next =
    let e : suc (n + 1) ≡ suc n + 1 = omega arith in
    next_begins ws n v next ∙ ap (λ (k : ℕ). v ∷ drop k (w ∷ ws)) e

pub next_among : (path : List Id) (n : ℕ) (v : Id) → slice_get path n ≡ Some v → Contains path v
next_among [] n v next = absurd cc
next_among (w ∷ ws) zero v next = let same : w ≡ v = cc in subst (λ (u : Id). Contains (w ∷ ws) u) same (contains_here w ws)
next_among (w ∷ ws) (suc n) v next = contains_more w v ws (next_among ws n v next)

pub next_inside : (path : List Id) (n : ℕ) (v : Id) → slice_get path n ≡ Some v → n < length path
next_inside [] n v next = absurd cc
next_inside (w ∷ ws) zero v next = omega arith
next_inside (w ∷ ws) (suc n) v next = let less = next_inside ws n v next in omega (arith, less)
