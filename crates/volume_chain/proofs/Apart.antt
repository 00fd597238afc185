-- No volume stands on a path twice.
use Rattle.std.proofs.Common.{◌≡◌, ℕ, zero, suc, ◌+◌, Bool, true, false, List, [], ◌∷◌, length, drop, slice_get, Option, Some, refl, sym, ◌∙◌, subst, inl, inr, arith}
use Rattle.std.specs.Prelude.{if◌then◌else◌}
use Rattle.std.specs.List.{Contains}
use Rattle.std.proofs.lemmas.Bool.{false≢true}
use Rattle.sd_names.specs.declared.id.Id.{Id}
use Rattle.shared_disk.specs.Content.{File}
use Rattle.shared_disk.specs.Places.{id_is}
use Rattle.shared_disk.proofs.Outcomes.{contains_here, contains_more, nothing_in, cons_cases}
use Rattle.chain_model.specs.Chain.{IsBelow, counting}
use Rattle.chain_model.specs.Records.{Records, is_passed}
use Rattle.chain_model.proofs.Chains.{no_ring}
use Rattle.chain_model.proofs.Rings.{id_is-Decides}
use Rattle.chain_records.specs.Paths.{IsReadingPath}
use Rattle.chain_records.proofs.Settled.{counted, counting_kept, counting_passed}
use Rattle.volume_chain.specs.Chain.{OnPath}
use Rattle.volume_chain.specs.declared.volumes.OpenVolume.{OpenVolume}

abbrev pub AreApart : List Id → Type 0
AreApart [] = Unit {0}
AreApart (v ∷ vs) = (Contains vs v → ⊥) × AreApart vs

below_apart : (r : Records) (v : Id) (vs : List Id) → IsBelow r v vs → AreApart (v ∷ vs)
below_apart r v [] below = ((λ h. nothing_in v h), tt)
below_apart r v (w ∷ ws) below = ((λ h. no_ring r v (w ∷ ws) below h), below_apart r w ws below.1)

counting_apart : (r : Records) (vs : List Id) → AreApart vs → AreApart (counting r vs)
counting_apart r [] apart = tt
counting_apart r (w ∷ ws) apart = go (is_passed r w) refl (counting_apart r ws apart.1)
  where
    go : (t : Bool) → is_passed r w ≡ t → AreApart (counting r ws) → AreApart (counting r (w ∷ ws))
    go true t rest = subst (λ (us : List Id). AreApart us) (sym (counting_passed r w ws t)) rest
    go false t rest = subst (λ (us : List Id). AreApart us) (sym (counting_kept r w ws t)) ((λ h. apart.0 (counted r w ws h).0), rest)

pub path_apart : (r : Records) (path : List Id) → IsReadingPath r path → AreApart path
path_apart r path reading =
    let all = below_apart r reading.0 reading.1 reading.2.below in
    subst (λ (p : List Id). AreApart p) (sym reading.3) ((λ h. all.0 (counted r reading.0 reading.1 h).0), counting_apart r reading.1 all.1)

-- what is said of the open volumes of a path needs to be shown of those alone that don't come again behind them
pub along_apart : (R S : Id → OpenVolume → Type 0) (path : List Id) (os : List OpenVolume) → AreApart path
    → ((v : Id) (o : OpenVolume) → (Contains (drop (length os) path) v → ⊥) → R v o → S v o) → OnPath R path os → OnPath S path os
along_apart R S path [] apart to along = tt
along_apart R S [] (o ∷ os) apart to along = absurd along
along_apart R S (v ∷ vs) (o ∷ os) apart to along =
    (to v o (λ h. apart.0 (in_rest (length os) vs h)) along.0, along_apart R S vs os apart.1 (λ w p none. to w p none) along.1)
  where
    in_rest : {w : Id} (n : ℕ) (ws : List Id) → Contains (drop n ws) w → Contains ws w
    in_rest zero ws h = h
    in_rest (suc n) [] h = h
    in_rest {w} (suc n) (u ∷ us) h = contains_more u w us (in_rest n us h)

-- the next volume doesn't come again
pub next_apart : (path : List Id) (n : ℕ) (v : Id) → AreApart path → slice_get path n ≡ Some v → Contains (drop (n + 1) path) v → ⊥
next_apart [] n v apart next h = absurd cc
next_apart (w ∷ ws) zero v apart next h = let same : w ≡ v = cc in apart.0 (subst (λ (u : Id). Contains ws u) (sym same) h)
next_apart (w ∷ ws) (suc n) v apart next h =
    let e : suc n + 1 ≡ suc (n + 1) = omega arith in
    next_apart ws n v apart.1 next (subst (λ (k : ℕ). Contains (drop k (w ∷ ws)) v) e h)

-- ---- the files of some volumes as they are now, and those of the others as they were

pub now_among : List Id → (Id → Option File) → (Id → Option File) → Id → Option File
now_among [] new old u = old u
now_among (v ∷ vs) new old u = if id_is v u then new u else now_among vs new old u

pub now_late : (vs : List Id) (new old : Id → Option File) (u : Id) → Contains vs u → now_among vs new old u ≡ new u
unfolding now_among
now_late [] new old u h = absurd (nothing_in u h)
now_late (v ∷ vs) new old u h = go (id_is v u) refl (now_late vs new old u)
  where
    other : id_is v u ≡ false → Contains vs u
    other t = elim (cons_cases v u vs h) [ inl e ↦ absurd (false≢true (sym t ∙ (id_is-Decides v u).1 e)) | inr g ↦ g ]

    go : (b : Bool) → id_is v u ≡ b → (Contains vs u → now_among vs new old u ≡ new u) → (if b then new u else now_among vs new old u) ≡ new u
    go true t more = refl
    go false t more = more (other t)

pub now_early : (vs : List Id) (new old : Id → Option File) (u : Id) → (Contains vs u → ⊥) → now_among vs new old u ≡ old u
unfolding now_among
now_early [] new old u none = refl
now_early (v ∷ vs) new old u none = go (id_is v u) refl (now_early vs new old u (λ h. none (contains_more v u vs h)))
  where
    go : (b : Bool) → id_is v u ≡ b → now_among vs new old u ≡ old u → (if b then new u else now_among vs new old u) ≡ old u
    go true t more = absurd (none (subst (λ (w : Id). Contains (v ∷ vs) w) ((id_is-Decides v u).0 t) (contains_here v vs)))
    go false t more = more

pub now_either : (P : Option File → Type 0) (vs : List Id) (new old : Id → Option File) (u : Id) → P (new u) → P (old u) → P (now_among vs new old u)
unfolding now_among
now_either P [] new old u a b = b
now_either P (v ∷ vs) new old u a b = go (id_is v u) (now_either P vs new old u a b)
  where
    go : (t : Bool) → P (now_among vs new old u) → P (if t then new u else now_among vs new old u)
    go true more = a
    go false more = more
