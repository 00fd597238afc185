-- Walks along parents.
use Rattle.std.proofs.Common.{◌≡◌, ◌⊎◌, ◌<◌, ◌≤◌, Bool, true, false, List, [], ◌∷◌, ◌++◌, length, Some, None, refl, sym, subst, inl, inr, arith}
use Rattle.std.specs.List.{Contains, IsDistinct, list_any}
use Rattle.std.proofs.lemmas.Map.Keys.{IsDistinct-cons}
use Rattle.std.proofs.lemmas.Map.Made.{is_member-Decides, length-le_from_is_member}
use Rattle.sd_names.specs.declared.id.Id.{Id}
use Rattle.shared_disk.specs.Places.{id_is}
use Rattle.shared_disk.proofs.Outcomes.{contains_here, contains_more, nothing_in, cons_cases}
use Rattle.volume_meta.specs.declared.record.VolumeRecord.{VolumeRecord}
use Rattle.chain_model.specs.Records.{Records, parent}
use Rattle.chain_model.specs.Chain.{ComesToRing, IsBelow}
use Rattle.chain_model.proofs.Chains.{no_id, no_ring, same_id}
use Rattle.chain_model.proofs.Rings.{chain_or_ring, id_is-Decides, id_is-laws, none_is, record_behind}

-- from a volume by its parents, along these, to the last of them
abbrev pub Goes : Records → Id → List Id → Id → Type 0
Goes r v [] w = v ≡ w
Goes r v (u ∷ us) w = (parent r v ≡ Some u) × Goes r u us w

pub goes_on : (r : Records) (v w p : Id) (us : List Id) → Goes r v us w → parent r w ≡ Some p → Goes r v (us ++ p ∷ []) p
goes_on r v w p [] e f = (subst (λ (x : Id). parent r x ≡ Some p) (sym e) f, refl)
goes_on r v w p (u ∷ us) g f = (g.0, goes_on r u w p us g.1 f)

pub goes_end : (r : Records) (v w : Id) (us : List Id) → Goes r v us w → parent r w ≡ None → IsBelow r v us
goes_end r v w [] e f = subst (λ (x : Id). parent r x ≡ None) (sym e) f
goes_end r v w (u ∷ us) g f = (g.0, goes_end r u w us g.1 f)

-- a walk that goes on is shorter than what stands below
shorter : (r : Records) (v w p : Id) (us vs : List Id) → Goes r v us w → parent r w ≡ Some p → IsBelow r v vs → length us < length vs
shorter r v w p [] [] e f b = absurd (no_id (parent r w) p (subst (λ (x : Id). parent r x ≡ None) e b) f)
shorter r v w p [] (x ∷ xs) e f b = omega arith
shorter r v w p (u ∷ us) [] g f b = absurd (no_id (parent r v) u b g.0)
shorter r v w p (u ∷ us) (x ∷ xs) g f b =
    let same = same_id (parent r v) x u b.0 g.0 in
    let rest = shorter r u w p us xs g.1 f (subst (λ (z : Id). IsBelow r z xs) same b.1) in
    omega (arith, rest)

-- ---- no more volumes stand below than there are

-- each volume that has one below it
abbrev front : Id → List Id → List Id
front v [] = []
front v (w ∷ ws) = v ∷ front w ws

length_front : (v : Id) (vs : List Id) → length (front v vs) ≡ length vs
length_front v [] = refl
length_front v (w ∷ ws) = omega (arith, length_front w ws)

in_front : (v x : Id) (vs : List Id) → Contains (front v vs) x → Contains (v ∷ vs) x
in_front v x [] h = absurd (nothing_in x h)
in_front v x (w ∷ ws) h = go (cons_cases v x (front w ws) h) (in_front w x ws)
  where
    go : (v ≡ x) ⊎ Contains (front w ws) x → (Contains (front w ws) x → Contains (w ∷ ws) x) → Contains (v ∷ w ∷ ws) x
    go (inl e) more = subst (λ (z : Id). Contains (v ∷ w ∷ ws) z) e (contains_here v (w ∷ ws))
    go (inr g) more = contains_more v x (w ∷ ws) (more g)

held : (r : Records) (v u : Id) (vs : List Id) → IsBelow r v vs → Contains (front v vs) u → (x : VolumeRecord) × (r u ≡ Some x)
held r v u [] b h = absurd (nothing_in u h)
held r v u (w ∷ ws) b h = go (cons_cases v u (front w ws) h) (held r w u ws b.1)
  where
    go : (v ≡ u) ⊎ Contains (front w ws) u → (Contains (front w ws) u → (x : VolumeRecord) × (r u ≡ Some x)) → (x : VolumeRecord) × (r u ≡ Some x)
    go (inl e) more = subst (λ (z : Id). (x : VolumeRecord) × (r z ≡ Some x)) e (record_behind (r v) w b.0)
    go (inr g) more = more g

pub none_among : (v : Id) (ws : List Id) → (Contains ws v → ⊥) → list_any (id_is v) ws ≡ false
none_among v ws none = go (list_any (id_is v) ws) refl
  where
    go : (b : Bool) → list_any (id_is v) ws ≡ b → b ≡ false
    go false e = refl
    go true e = absurd (none ((is_member-Decides id_is-Decides ws v).0 e))

apart : (r : Records) (v : Id) (vs : List Id) → IsBelow r v vs → IsDistinct id_is (front v vs)
unfolding IsDistinct
apart r v [] b = tt
apart r v (w ∷ ws) b =
    IsDistinct-cons id_is v (front w ws)
    (none_is v (front w ws) (none_among v (front w ws) (λ h. no_ring r v (w ∷ ws) b (in_front w v ws h))))
    (apart r w ws b.1)

abbrev pub Known : Records → List Id → Type 0
Known r all = (v : Id) (x : VolumeRecord) → r v ≡ Some x → Contains all v

pub few_below : (r : Records) (all : List Id) → Known r all → (v : Id) (vs : List Id) → IsBelow r v vs → length vs ≤ length all
few_below r all known v vs b =
    let most = length-le_from_is_member id_is-laws (front v vs) all (apart r v vs b) among in omega (arith, most, length_front v vs)
  where
    among : (q : Id) → list_any (id_is q) (front v vs) ≡ true → list_any (id_is q) all ≡ true
    among q t =
        let has = held r v q vs b ((is_member-Decides id_is-Decides (front v vs) q).0 t) in
        (is_member-Decides id_is-Decides all q).1 (known q has.0 has.1)

-- a walk of as many steps as there are volumes that goes on comes to a ring
pub long_walk : (r : Records) (all : List Id) → Known r all → (v w p : Id) (us : List Id) → Goes r v us w → parent r w ≡ Some p → length us ≡ length all
    → ComesToRing r v
long_walk r all known v w p us g e long = go (chain_or_ring r all known v)
  where
    go : ((vs : List Id) × IsBelow r v vs) ⊎ ComesToRing r v → ComesToRing r v
    go (inr ring) = ring
    go (inl b) =
        let less = shorter r v w p us b.0 g e b.1 in
        let most = few_below r all known v b.0 b.1 in
        absurd (omega (arith, less, most, long))
