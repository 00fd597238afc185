-- Where a volume stands on a path, and what stands at an index.
use Rattle.std.proofs.Common.{◌≡◌, ℕ, suc, ◌+◌, ◌<◌, Bool, true, false, List, ◌∷◌, length, get_or, drop, drop-cons, refl, sym, ap, ◌∙◌, subst, arith, add-one}
use Rattle.std.specs.Prelude.{if◌then◌else◌}
use Rattle.sd_names.specs.declared.id.Id.{Id}
use Rattle.shared_disk.specs.Places.{id_is}
use Rattle.shared_disk.proofs.Places.{id_is-itself, id_is-same}
use Rattle.chain_reading.specs.Knowing.{place_on}

pub place_here : (v : Id) (path : List Id) (k : ℕ) (d : Id) → k < length path → get_or path k d ≡ v → place_on v path ≡ k + place_on v (drop k path) → k ≡ place_on v path
place_here v path k d less same before =
    let cut : drop k path ≡ get_or path k d ∷ drop (suc k) path = drop-cons path k d less in
    let is : id_is (get_or path k d) v ≡ true = subst (λ (w : Id). id_is (get_or path k d) w ≡ true) same (id_is-itself (get_or path k d)) in
    let none : place_on v (drop k path) ≡ 0 = ap (place_on v) cut ∙ ap (λ b. if b then 0 else suc (place_on v (drop (suc k) path))) is in
    omega (arith, before, none)

pub place_later : (v : Id) (path : List Id) (k : ℕ) (d : Id) → k < length path → (get_or path k d ≡ v → ⊥) → place_on v path ≡ k + place_on v (drop k path)
    → place_on v path ≡ k + 1 + place_on v (drop (k + 1) path)
place_later v path k d less other before = go (id_is (get_or path k d) v) refl
  where
    go : (b : Bool) → id_is (get_or path k d) v ≡ b → place_on v path ≡ k + 1 + place_on v (drop (k + 1) path)
    go true e = absurd (other (id_is-same (get_or path k d) v e))
    go false e =
        let cut : drop k path ≡ get_or path k d ∷ drop (suc k) path = drop-cons path k d less in
        let one : place_on v (drop k path) ≡ suc (place_on v (drop (suc k) path)) = ap (place_on v) cut ∙ ap (λ b. if b then 0 else suc (place_on v (drop (suc k) path))) e in
        let at : place_on v (drop (suc k) path) ≡ place_on v (drop (k + 1) path) = ap (λ n. place_on v (drop n path)) (sym (add-one k)) in
        omega (arith, before, one, at)
