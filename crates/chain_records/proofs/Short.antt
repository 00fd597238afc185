-- Where no check of the records refuses, paths have no more volumes than there are.
use Rattle.std.proofs.Common.{◌≡◌, ◌⊎◌, ◌≤◌, Bool, true, false, List, [], ◌∷◌, ◌++◌, length, map, Option, Some, None, refl, sym, subst, inl, inr, arith}
use Rattle.std.specs.List.{Contains, IsDistinct, list_any}
use Rattle.std.proofs.lemmas.List.Elements.{Contains-append_left, Contains-append_right}
use Rattle.std.proofs.lemmas.Map.Keys.{IsDistinct-cons}
use Rattle.std.proofs.lemmas.Map.Made.{is_member-Decides, length-le_from_is_member}
use Rattle.sd_names.specs.declared.id.Id.{Id}
use Rattle.sd_names.specs.declared.refusal.Refusal.{Refusal}
use Rattle.sd_names.specs.declared.refusal.Refusal.TheVariants.{ChainTooLong, WrongParent}
use Rattle.shared_disk.specs.Places.{id_is}
use Rattle.shared_disk.proofs.Outcomes.{contains_here, contains_more, nothing_in, cons_cases}
use Rattle.volume_meta.specs.declared.record.VolumeRecord.{VolumeRecord}
use Rattle.chain_model.specs.Chain.{ComesToRing, IsBelow, counting, path_of}
use Rattle.chain_model.specs.Opening.{Check, both, capacity, format, parents, reading, ring}
use Rattle.chain_model.specs.Records.{Records, is_passed, parent}
use Rattle.chain_model.proofs.Chains.{no_ring}
use Rattle.chain_model.proofs.Rings.{chain_or_ring, id_is-Decides, id_is-laws, none_is}
use Rattle.chain_records.specs.declared.volume.Volume.{Volume}
use Rattle.chain_records.specs.Checks.{FirstIs, RefusesBy, record_checks}
use Rattle.chain_records.specs.Paths.{HasChain}
use Rattle.chain_records.specs.Records.{ids_of, records_in}
use Rattle.chain_records.proofs.Lists.{length_ids, record_among}
use Rattle.chain_records.proofs.Settled.{counting_kept, counting_passed}
use Rattle.chain_records.proofs.Walks.{none_among}

pub passes : (r : Records) (cs : List Check) → FirstIs r cs None → (c : Check) → Contains cs c → (e : Refusal) → RefusesBy r c e → ⊥
passes r [] f c h e p = nothing_in c h
passes r (d ∷ ds) (inl f) c h e p = let same = f.2 in absurd cc
passes r (d ∷ ds) (inr f) c h e p =
    elim (cons_cases d c ds h) [
      | inl same ↦ f.0 e (subst (λ (a : Check). RefusesBy r a e) (sym same) p)
      | inr g ↦ passes r ds f.1 c g e p
    ]

in_parents : (vs : List Id) (v : Id) → Contains vs v → Contains (map parents vs) (parents v)
in_parents [] v h = absurd (nothing_in v h)
in_parents (w ∷ ws) v h = go (cons_cases w v ws h) (in_parents ws v)
  where
    go : (w ≡ v) ⊎ Contains ws v → (Contains ws v → Contains (map parents ws) (parents v)) → Contains (map parents (w ∷ ws)) (parents v)
    go (inl e) more = subst (λ (z : Id). Contains (map parents (w ∷ ws)) (parents z)) e (contains_here (parents w) (map parents ws))
    go (inr g) more = contains_more (parents w) (parents v) (map parents ws) (more g)

pub asks_parents : (vs : List Id) (v : Id) → Contains vs v → Contains (record_checks vs) (parents v)
asks_parents vs v h =
    Contains-append_left (map parents vs ++ ring ∷ both format capacity vs) (reading ∷ []) (parents v) (
    Contains-append_left (map parents vs) (ring ∷ both format capacity vs) (parents v) (in_parents vs v h))

pub asks_ring : (vs : List Id) → Contains (record_checks vs) ring
asks_ring vs =
    Contains-append_left (map parents vs ++ ring ∷ both format capacity vs) (reading ∷ []) ring (
    Contains-append_right (map parents vs) (ring ∷ both format capacity vs) ring (contains_here ring (both format capacity vs)))

in_values : (vs : List Id) (v : Id) → Contains vs v → Contains (both format capacity vs) (format v) × Contains (both format capacity vs) (capacity v)
in_values [] v h = absurd (nothing_in v h)
in_values (w ∷ ws) v h = go (cons_cases w v ws h) (in_values ws v)
  where
    go : (w ≡ v) ⊎ Contains ws v → (Contains ws v → Contains (both format capacity ws) (format v) × Contains (both format capacity ws) (capacity v))
        → Contains (both format capacity (w ∷ ws)) (format v) × Contains (both format capacity (w ∷ ws)) (capacity v)
    go (inl e) more =
        subst (λ (z : Id). Contains (both format capacity (w ∷ ws)) (format z) × Contains (both format capacity (w ∷ ws)) (capacity z)) e (
          contains_here (format w) (capacity w ∷ both format capacity ws),
          contains_more (format w) (capacity w) (capacity w ∷ both format capacity ws) (contains_here (capacity w) (both format capacity ws)),
        )
    go (inr g) more = (
      contains_more (format w) (format v) (capacity w ∷ both format capacity ws) (contains_more (capacity w) (format v) (both format capacity ws) (more g).0),
      contains_more (format w) (capacity v) (capacity w ∷ both format capacity ws) (contains_more (capacity w) (capacity v) (both format capacity ws) (more g).1),
    )

in_checks : (vs : List Id) (c : Check) → Contains (both format capacity vs) c → Contains (record_checks vs) c
in_checks vs c h =
    Contains-append_left (map parents vs ++ ring ∷ both format capacity vs) (reading ∷ []) c (
    Contains-append_right (map parents vs) (ring ∷ both format capacity vs) c (contains_more ring c (both format capacity vs) h))

pub asks_format : (vs : List Id) (v : Id) → Contains vs v → Contains (record_checks vs) (format v)
asks_format vs v h = in_checks vs (format v) (in_values vs v h).0

pub asks_capacity : (vs : List Id) (v : Id) → Contains vs v → Contains (record_checks vs) (capacity v)
asks_capacity vs v h = in_checks vs (capacity v) (in_values vs v h).1

pub asks_reading : (vs : List Id) → Contains (record_checks vs) reading
asks_reading vs = Contains-append_right (map parents vs ++ ring ∷ both format capacity vs) (reading ∷ []) reading (contains_here reading [])

pub has_chain : (xs : List Volume) (v : Id) → FirstIs (records_in xs) (record_checks (ids_of xs)) None → HasChain (records_in xs) v
has_chain xs v f = go (chain_or_ring (records_in xs) (ids_of xs) (record_among xs) v)
  where
    go : ((vs : List Id) × IsBelow (records_in xs) v vs) ⊎ ComesToRing (records_in xs) v → HasChain (records_in xs) v
    go (inl b) = b
    go (inr r) = absurd (passes (records_in xs) (record_checks (ids_of xs)) f ring (asks_ring (ids_of xs)) (ChainTooLong 0) ((r.0, r.2), refl))

parent_inside : (xs : List Volume) (v p : Id) → FirstIs (records_in xs) (record_checks (ids_of xs)) None → Contains (ids_of xs) v
    → parent (records_in xs) v ≡ Some p → Contains (ids_of xs) p
parent_inside xs v p f h e = go (records_in xs p) refl
  where
    go : (o : Option VolumeRecord) → records_in xs p ≡ o → Contains (ids_of xs) p
    go None n = absurd (passes (records_in xs) (record_checks (ids_of xs)) f (parents v) (asks_parents (ids_of xs) v h) (WrongParent v p) (p, (e, n), refl))
    go (Some y) s = record_among xs p y s

pub chain_inside : (xs : List Volume) (v u : Id) (vs : List Id) → FirstIs (records_in xs) (record_checks (ids_of xs)) None → Contains (ids_of xs) v
    → IsBelow (records_in xs) v vs → Contains vs u → Contains (ids_of xs) u
chain_inside xs v u [] f h b g = absurd (nothing_in u g)
chain_inside xs v u (w ∷ ws) f h b g = go (cons_cases w u ws g) (chain_inside xs w u ws f (parent_inside xs v w f h b.0) b.1)
  where
    go : (w ≡ u) ⊎ Contains ws u → (Contains ws u → Contains (ids_of xs) u) → Contains (ids_of xs) u
    go (inl e) more = subst (λ (z : Id). Contains (ids_of xs) z) e (parent_inside xs v w f h b.0)
    go (inr k) more = more k

apart : (r : Records) (v : Id) (vs : List Id) → IsBelow r v vs → IsDistinct id_is (v ∷ vs)
unfolding IsDistinct
apart r v [] b = IsDistinct-cons id_is v [] tt tt
apart r v (w ∷ ws) b =
    IsDistinct-cons id_is v (w ∷ ws) (none_is v (w ∷ ws) (none_among v (w ∷ ws) (λ h. no_ring r v (w ∷ ws) b h))) (apart r w ws b.1)

fewer : (r : Records) (vs : List Id) → length (counting r vs) ≤ length vs
fewer r [] = omega arith
fewer r (w ∷ ws) = go (is_passed r w) refl (fewer r ws)
  where
    go : (t : Bool) → is_passed r w ≡ t → length (counting r ws) ≤ length ws → length (counting r (w ∷ ws)) ≤ length (w ∷ ws)
    go true t le = subst (λ (us : List Id). length us ≤ length (w ∷ ws)) (sym (counting_passed r w ws t)) (omega (arith, le))
    go false t le = subst (λ (us : List Id). length us ≤ length (w ∷ ws)) (sym (counting_kept r w ws t)) (omega (arith, le))

pub short_path : (xs : List Volume) (v : Id) (vs : List Id) → FirstIs (records_in xs) (record_checks (ids_of xs)) None → Contains (ids_of xs) v
    → IsBelow (records_in xs) v vs
    → length (path_of (records_in xs) v vs) ≤ length xs
short_path xs v vs f h b =
    let most = length-le_from_is_member id_is-laws (v ∷ vs) (ids_of xs) (apart (records_in xs) v vs b) among in
    omega (arith, most, fewer (records_in xs) vs, length_ids xs)
  where
    cases : (q : Id) → (v ≡ q) ⊎ Contains vs q → Contains (ids_of xs) q
    cases q (inl e) = subst (λ (z : Id). Contains (ids_of xs) z) e h
    cases q (inr g) = chain_inside xs v q vs f h b g

    among : (q : Id) → list_any (id_is q) (v ∷ vs) ≡ true → list_any (id_is q) (ids_of xs) ≡ true
    among q t = (is_member-Decides id_is-Decides (ids_of xs) q).1 (cases q (cons_cases v q vs ((is_member-Decides id_is-Decides (v ∷ vs) q).0 t)))
