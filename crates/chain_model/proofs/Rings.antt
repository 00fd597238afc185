-- The parents of a volume end, or they come to a ring.
use Rattle.std.proofs.Common.{◌≡◌, ◌⊎◌, ℕ, zero, suc, Bool, true, false, ◌||◌, List, [], ◌∷◌, length, Option, Some, None, refl, sym, ap, ◌∙◌, subst, inl, inr, arith}
use Rattle.std.specs.Prelude.{option_and_then}
use Rattle.std.specs.Bool.{Decides}
use Rattle.std.specs.Cmp.{IsEquivalence}
use Rattle.std.specs.List.{AllByRecursion, Contains, IsDistinct, list_any}
use Rattle.std.proofs.lemmas.Bool.Decides.{Decides-like, same_from_decides}
use Rattle.std.proofs.lemmas.Map.Keys.{IsDistinct-cons}
use Rattle.std.proofs.lemmas.Map.Made.{is_member-Decides, length-le_from_is_member}
use Rattle.sd_names.specs.declared.id.Id.{Id}
use Rattle.shared_disk.specs.Places.{id_is}
use Rattle.shared_disk.proofs.Outcomes.{contains_here, contains_more, nothing_in, cons_cases}
use Rattle.shared_disk.proofs.Places.{id_is-itself, id_is-same}
use Rattle.volume_meta.specs.declared.record.VolumeRecord.{VolumeRecord}
use Rattle.chain_model.specs.Records.{Records, parent, parent_in}
use Rattle.chain_model.specs.Chain.{ComesToRing, HasAncestor, IsBelow, farther, nearest}
use Rattle.chain_model.proofs.Chains.{below_one, no_id, no_ring, same_id}

-- ---- ancestors stand below

pub ancestor_below : (r : Records) (v w : Id) (vs : List Id) → HasAncestor r v w → IsBelow r v vs → Contains vs w
ancestor_below r v w [] (nearest e) b = absurd (no_id (parent r v) w b e)
ancestor_below r v w (u ∷ us) (nearest e) b = subst (λ (x : Id). Contains (u ∷ us) x) (same_id (parent r v) u w b.0 e) (contains_here u us)
ancestor_below r v w [] (farther {w = m} e more) b = absurd (no_id (parent r v) m b e)
ancestor_below r v w (u ∷ us) (farther {w = m} e more) b =
    let same = same_id (parent r v) u m b.0 e in
    contains_more u w us (ancestor_below r m w us more (subst (λ (x : Id). IsBelow r x us) same b.1))

-- parents that come to a ring never end
pub no_chain : (r : Records) (v : Id) (vs : List Id) → ComesToRing r v → IsBelow r v vs → ⊥
no_chain r v vs ring b =
    let rest = below_one r v ring.0 vs b (ancestor_below r v ring.0 vs ring.1 b) in
    no_ring r ring.0 rest.0 rest.1 (ancestor_below r ring.0 ring.0 rest.0 ring.2 rest.1)

-- ---- tests on identifiers

pub id_is-Decides : (a b : Id) → Decides (id_is a b) (a ≡ b)
id_is-Decides a b = (id_is-same a b, λ e. subst (λ (x : Id). id_is a x ≡ true) e (id_is-itself a))

pub id_is-laws : IsEquivalence id_is
id_is-laws = record {
  refl = id_is-itself;
  symm = λ a b. same_from_decides (id_is a b) (id_is b a) (id_is-Decides a b) (Decides-like (id_is b a) (λ e. sym e) (λ e. sym e) (id_is-Decides b a));
  congr = λ a b c e. ap (λ (x : Id). id_is x c) (id_is-same a b e);
}

-- ---- a walk by parents

-- volumes by their parents, each of which has one
abbrev Line : Records → Id → List Id → Type 0
Line r v [] = Unit {0}
Line r v (u ∷ us) = (v ≡ u) × (w : Id) × (parent r v ≡ Some w) × Line r w us

walk : (r : Records) (n : ℕ) (v : Id) → ((vs : List Id) × IsBelow r v vs) ⊎ ((us : List Id) × Line r v us × (length us ≡ n))
walk r zero v = inr ([], tt, refl)
walk r (suc n) v = go (parent r v) refl (λ w. walk r n w)
  where
    go : (o : Option Id) → parent r v ≡ o → ((w : Id) → ((vs : List Id) × IsBelow r w vs) ⊎ ((us : List Id) × Line r w us × (length us ≡ n)))
        → ((vs : List Id) × IsBelow r v vs) ⊎ ((us : List Id) × Line r v us × (length us ≡ suc n))
    go None e more = inl ([], e)
    go (Some w) e more = elim (more w) [ inl b ↦ inl (w ∷ b.0, (e, b.1)) | inr l ↦ inr (v ∷ l.0, (refl, w, e, l.1), omega (arith, l.2)) ]

reached : (r : Records) (v u : Id) (us : List Id) → Line r v us → Contains us u → (v ≡ u) ⊎ HasAncestor r v u
reached r v u [] l h = absurd (nothing_in u h)
reached r v u (w ∷ ws) l h = go (cons_cases w u ws h) (λ g. reached r l.1 u ws l.3 g)
  where
    further : (l.1 ≡ u) ⊎ HasAncestor r l.1 u → HasAncestor r v u
    further (inl e) = nearest (l.2 ∙ ap (λ (x : Id). Some x) e)
    further (inr a) = farther l.2 a

    go : (w ≡ u) ⊎ Contains ws u → (Contains ws u → (l.1 ≡ u) ⊎ HasAncestor r l.1 u) → (v ≡ u) ⊎ HasAncestor r v u
    go (inl e) more = inl (l.0 ∙ e)
    go (inr g) more = inr (further (more g))

pub record_behind : (o : Option VolumeRecord) (w : Id) → option_and_then parent_in o ≡ Some w → (x : VolumeRecord) × (o ≡ Some x)
record_behind None w e = absurd cc
record_behind (Some x) w e = (x, refl)

held : (r : Records) (v u : Id) (us : List Id) → Line r v us → Contains us u → (x : VolumeRecord) × (r u ≡ Some x)
held r v u [] l h = absurd (nothing_in u h)
held r v u (w ∷ ws) l h =
    elim (cons_cases w u ws h) [
      | inl e ↦ subst (λ (x : Id). (y : VolumeRecord) × (r x ≡ Some y)) (l.0 ∙ e) (record_behind (r v) l.1 l.2)
      | inr g ↦ held r l.1 u ws l.3 g
    ]

pub none_is : (w : Id) (ws : List Id) → list_any (id_is w) ws ≡ false → AllByRecursion (λ y. id_is w y ≡ false) ws
none_is w [] e = tt
none_is w (y ∷ ys) e = let parts = neither (id_is w y) (list_any (id_is w) ys) e in (parts.0, none_is w ys parts.1)
  where
    neither : (a b : Bool) → (a || b) ≡ false → (a ≡ false) × (b ≡ false)
    neither true b f = absurd cc
    neither false b f = (refl, f)

-- no volume of a walk comes twice, or the walk comes to a ring
apart_or_ring : (r : Records) (v : Id) (us : List Id) → Line r v us → ComesToRing r v ⊎ IsDistinct id_is us
unfolding IsDistinct
apart_or_ring r v [] l = inr tt
apart_or_ring r v (w ∷ ws) l = go (list_any (id_is w) ws) refl (apart_or_ring r l.1 ws l.3)
  where
    further : (l.1 ≡ w) ⊎ HasAncestor r l.1 w → HasAncestor r v w
    further (inl e) = nearest (l.2 ∙ ap (λ (x : Id). Some x) e)
    further (inr a) = farther l.2 a

    go : (b : Bool) → list_any (id_is w) ws ≡ b → ComesToRing r l.1 ⊎ IsDistinct id_is ws → ComesToRing r v ⊎ IsDistinct id_is (w ∷ ws)
    go b e (inl ring) = inl (ring.0, farther l.2 ring.1, ring.2)
    go true e (inr d) =
        let again : HasAncestor r v w = further (reached r l.1 w ws l.3 ((is_member-Decides id_is-Decides ws w).0 e)) in
        inl (w, again, subst (λ (x : Id). HasAncestor r x w) l.0 again)
    go false e (inr d) = inr (IsDistinct-cons id_is w ws (none_is w ws e) d)

pub chain_or_ring : (r : Records) (all : List Id) → ((v : Id) (x : VolumeRecord) → r v ≡ Some x → Contains all v) → (v : Id) → ((vs : List Id) × IsBelow r v vs) ⊎ ComesToRing r v
chain_or_ring r all known v = go (walk r (suc (length all)) v)
  where
    among : (us : List Id) → Line r v us → (q : Id) → list_any (id_is q) us ≡ true → list_any (id_is q) all ≡ true
    among us l q t =
        let has = held r v q us l ((is_member-Decides id_is-Decides us q).0 t) in
        (is_member-Decides id_is-Decides all q).1 (known q has.0 has.1)

    long : (us : List Id) → Line r v us → length us ≡ suc (length all) → ComesToRing r v ⊎ IsDistinct id_is us → ComesToRing r v
    long us l len (inl ring) = ring
    long us l len (inr d) = let most = length-le_from_is_member id_is-laws us all d (among us l) in absurd (omega (arith, most, len))

    go : ((vs : List Id) × IsBelow r v vs) ⊎ ((us : List Id) × Line r v us × (length us ≡ suc (length all))) → ((vs : List Id) × IsBelow r v vs) ⊎ ComesToRing r v
    go (inl b) = inl b
    go (inr l) = inr (long l.0 l.1 l.2 (apart_or_ring r v l.0 l.1))
