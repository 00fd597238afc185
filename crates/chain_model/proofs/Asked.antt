-- Which checks an opening makes.
use Rattle.std.proofs.Common.{◌≡◌, ◌⊎◌, List, [], ◌∷◌, ◌++◌, map, subst, inl, inr}
use Rattle.std.specs.List.{Contains}
use Rattle.std.proofs.lemmas.List.Elements.{Contains-append_left, Contains-append_right}
use Rattle.sd_names.specs.declared.id.Id.{Id}
use Rattle.shared_disk.proofs.Outcomes.{contains_here, contains_more, nothing_in, cons_cases}
use Rattle.chain_model.specs.Opening.{Check, both, capacity, checks, count, format, header, layer, of_volumes, parents, reading, ring, text, there}

in_both : (f g : Id → Check) (vs : List Id) (v : Id) → Contains vs v → Contains (both f g vs) (f v) × Contains (both f g vs) (g v)
in_both f g [] v h = absurd (nothing_in v h)
in_both f g (w ∷ ws) v h = go (cons_cases w v ws h) (λ rest. in_both f g ws v rest)
  where
    go : (w ≡ v) ⊎ Contains ws v → (Contains ws v → Contains (both f g ws) (f v) × Contains (both f g ws) (g v)) → Contains (both f g (w ∷ ws)) (f v) × Contains (both f g (w ∷ ws)) (g v)
    go (inl e) more =
        subst (λ (z : Id). Contains (both f g (w ∷ ws)) (f z) × Contains (both f g (w ∷ ws)) (g z)) e
        (contains_here (f w) (g w ∷ both f g ws), contains_more (f w) (g w) (g w ∷ both f g ws) (contains_here (g w) (both f g ws)))
    go (inr rest) more =
        let deep = more rest in (
          contains_more (f w) (f v) (g w ∷ both f g ws) (contains_more (g w) (f v) (both f g ws) deep.0),
          contains_more (f w) (g v) (g w ∷ both f g ws) (contains_more (g w) (g v) (both f g ws) deep.1),
        )

in_map : (f : Id → Check) (vs : List Id) (v : Id) → Contains vs v → Contains (map f vs) (f v)
in_map f [] v h = absurd (nothing_in v h)
in_map f (w ∷ ws) v h = go (cons_cases w v ws h) (λ rest. in_map f ws v rest)
  where
    go : (w ≡ v) ⊎ Contains ws v → (Contains ws v → Contains (map f ws) (f v)) → Contains (map f (w ∷ ws)) (f v)
    go (inl e) more = subst (λ (z : Id). Contains (map f (w ∷ ws)) (f z)) e (contains_here (f w) (map f ws))
    go (inr rest) more = contains_more (f w) (f v) (map f ws) (more rest)

-- ---- those of all volumes

of_all : (vs ps : List Id) (c : Check) → Contains (of_volumes vs) c → Contains (checks vs ps) c
of_all vs ps c h = Contains-append_left (of_volumes vs) (reading ∷ both layer header ps) c h

-- those in front of the ring's, and those from there on
before_ring : (vs ps : List Id) (c : Check) → Contains (count ∷ map text vs ++ map there vs ++ map parents vs) c → Contains (checks vs ps) c
before_ring vs ps c h = of_all vs ps c (Contains-append_left (count ∷ map text vs ++ map there vs ++ map parents vs) (ring ∷ both format capacity vs) c h)

from_ring : (vs ps : List Id) (c : Check) → Contains (ring ∷ both format capacity vs) c → Contains (checks vs ps) c
from_ring vs ps c h = of_all vs ps c (Contains-append_right (count ∷ map text vs ++ map there vs ++ map parents vs) (ring ∷ both format capacity vs) c h)

pub asks_count : (vs ps : List Id) → Contains (checks vs ps) count
asks_count vs ps =
    before_ring vs ps count (
    Contains-append_left (count ∷ map text vs ++ map there vs) (map parents vs) count (
    Contains-append_left (count ∷ map text vs) (map there vs) count (contains_here count (map text vs))))

pub asks_text : (vs ps : List Id) (v : Id) → Contains vs v → Contains (checks vs ps) (text v)
asks_text vs ps v h =
    before_ring vs ps (text v) (
    Contains-append_left (count ∷ map text vs ++ map there vs) (map parents vs) (text v) (
    Contains-append_left (count ∷ map text vs) (map there vs) (text v) (contains_more count (text v) (map text vs) (in_map text vs v h))))

pub asks_there : (vs ps : List Id) (v : Id) → Contains vs v → Contains (checks vs ps) (there v)
asks_there vs ps v h =
    before_ring vs ps (there v) (
    Contains-append_left (count ∷ map text vs ++ map there vs) (map parents vs) (there v) (
    Contains-append_right (count ∷ map text vs) (map there vs) (there v) (in_map there vs v h)))

pub asks_parents : (vs ps : List Id) (v : Id) → Contains vs v → Contains (checks vs ps) (parents v)
asks_parents vs ps v h = before_ring vs ps (parents v) (Contains-append_right (count ∷ map text vs ++ map there vs) (map parents vs) (parents v) (in_map parents vs v h))

pub asks_ring : (vs ps : List Id) → Contains (checks vs ps) ring
asks_ring vs ps = from_ring vs ps ring (contains_here ring (both format capacity vs))

pub asks_format : (vs ps : List Id) (v : Id) → Contains vs v → Contains (checks vs ps) (format v)
asks_format vs ps v h = from_ring vs ps (format v) (contains_more ring (format v) (both format capacity vs) (in_both format capacity vs v h).0)

pub asks_capacity : (vs ps : List Id) (v : Id) → Contains vs v → Contains (checks vs ps) (capacity v)
asks_capacity vs ps v h = from_ring vs ps (capacity v) (contains_more ring (capacity v) (both format capacity vs) (in_both format capacity vs v h).1)

-- ---- those of the path

of_path : (vs ps : List Id) (c : Check) → Contains (reading ∷ both layer header ps) c → Contains (checks vs ps) c
of_path vs ps c h = Contains-append_right (of_volumes vs) (reading ∷ both layer header ps) c h

pub asks_reading : (vs ps : List Id) → Contains (checks vs ps) reading
asks_reading vs ps = of_path vs ps reading (contains_here reading (both layer header ps))

pub asks_layer : (vs ps : List Id) (v : Id) → Contains ps v → Contains (checks vs ps) (layer v)
asks_layer vs ps v h = of_path vs ps (layer v) (contains_more reading (layer v) (both layer header ps) (in_both layer header ps v h).0)

pub asks_header : (vs ps : List Id) (v : Id) → Contains ps v → Contains (checks vs ps) (header v)
asks_header vs ps v h = of_path vs ps (header v) (contains_more reading (header v) (both layer header ps) (in_both layer header ps v h).1)
