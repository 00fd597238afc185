-- A volume of the path reads as the path does from it on.
use Rattle.std.proofs.Common.{◌≡◌, ◌⊎◌, suc, Bool, true, false, List, [], ◌∷◌, drop, refl, sym, ap, ◌∙◌, subst, inl, inr}
use Rattle.std.specs.Prelude.{if◌then◌else◌}
use Rattle.std.specs.List.{Contains}
use Rattle.std.proofs.lemmas.Bool.{false≢true}
use Rattle.sd_names.specs.declared.id.Id.{Id}
use Rattle.shared_disk.specs.Places.{id_is}
use Rattle.shared_disk.proofs.Outcomes.{cons_cases, nothing_in}
use Rattle.shared_disk.proofs.Places.{id_is-itself, id_is-same}
use Rattle.chain_model.specs.Chain.{IsBelow, counting, path_of}
use Rattle.chain_model.specs.Records.{Records, is_passed}
use Rattle.chain_model.proofs.Chains.{one_below}
use Rattle.chain_reading.specs.Knowing.{place_on}

-- among the volumes below one that count, from one of them on stands its path
below_from : (r : Records) (v w : Id) (ws us : List Id) → IsBelow r w ws → Contains (counting r ws) v → IsBelow r v us → drop (place_on v (counting r ws)) (counting r ws) ≡ path_of r v us
below_from r v w [] us below h at = absurd (nothing_in v h)
below_from r v w (u ∷ ws) us below h at = by_passed (λ g. below_from r v u ws us below.1 g at) (is_passed r u) refl h
  where
    found : (Contains (counting r ws) v → drop (place_on v (counting r ws)) (counting r ws) ≡ path_of r v us) → (b : Bool) → id_is u v ≡ b → Contains (u ∷ counting r ws) v → drop (if b then 0 else suc (place_on v (counting r ws))) (u ∷ counting r ws) ≡ path_of r v us
    found rest true e g =
        let same : u ≡ v = id_is-same u v e in
        let all : ws ≡ us = one_below r v ws us (subst (λ (z : Id). IsBelow r z ws) same below.1) at in
        ap (λ (z : Id). z ∷ counting r ws) same ∙ ap (λ (zs : List Id). v ∷ counting r zs) all
    found rest false e g = rest (later (cons_cases u v (counting r ws) g))
      where
        later : (u ≡ v) ⊎ Contains (counting r ws) v → Contains (counting r ws) v
        later (inl same) = absurd (false≢true (sym e ∙ subst (λ (z : Id). id_is u z ≡ true) same (id_is-itself u)))
        later (inr c) = c

    by_passed : (Contains (counting r ws) v → drop (place_on v (counting r ws)) (counting r ws) ≡ path_of r v us) → (p : Bool) → is_passed r u ≡ p → Contains (counting r (u ∷ ws)) v → drop (place_on v (counting r (u ∷ ws))) (counting r (u ∷ ws)) ≡ path_of r v us
    by_passed rest true e g = rw e (rest (rw e at g))
    by_passed rest false e g = rw e (found rest (id_is u v) refl (rw e at g))

pub path_from : (r : Records) (v w : Id) (ws us : List Id) → IsBelow r w ws → Contains (path_of r w ws) v → IsBelow r v us → drop (place_on v (path_of r w ws)) (path_of r w ws) ≡ path_of r v us
path_from r v w ws us below h at = go (id_is w v) refl
  where
    go : (b : Bool) → id_is w v ≡ b → drop (if b then 0 else suc (place_on v (counting r ws))) (w ∷ counting r ws) ≡ path_of r v us
    go true e =
        let same : w ≡ v = id_is-same w v e in
        let rest : ws ≡ us = one_below r v ws us (subst (λ (z : Id). IsBelow r z ws) same below) at in
        ap (λ (z : Id). z ∷ counting r ws) same ∙ ap (λ (zs : List Id). v ∷ counting r zs) rest
    go false e = below_from r v w ws us below (later (cons_cases w v (counting r ws) h)) at
      where
        later : (w ≡ v) ⊎ Contains (counting r ws) v → Contains (counting r ws) v
        later (inl same) = absurd (false≢true (sym e ∙ subst (λ (z : Id). id_is w z ≡ true) same (id_is-itself w)))
        later (inr c) = c
