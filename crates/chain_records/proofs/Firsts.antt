-- The first check of a list that refuses.
use Rattle.std.proofs.Common.{◌≡◌, ℕ, ◌<◌, ◌+◌, List, [], ◌∷◌, ◌++◌, length, get_or, drop, map, Option, Some, None, refl, sym, subst, inl, inr}
use Rattle.std.specs.List.{Contains}
use Rattle.sd_names.specs.declared.id.Id.{Id}
use Rattle.sd_names.specs.declared.refusal.Refusal.{Refusal}
use Rattle.sd_names.specs.declared.refusal.Refusal.TheVariants.{ChainTooLong, NoReadingVolume}
use Rattle.shared_disk.proofs.Outcomes.{contains_here, contains_more}
use Rattle.chain_model.specs.Chain.{HasRing}
use Rattle.chain_model.specs.Opening.{Check, both, capacity, format, parents, reading, ring}
use Rattle.chain_model.specs.Reading.{HasNoReading}
use Rattle.chain_model.specs.Records.{Records}
use Rattle.chain_records.specs.declared.volume.Volume.{Volume}
use Rattle.chain_records.specs.Checks.{FirstIs, RefusesBy, record_checks}
use Rattle.chain_records.specs.Paths.{IsReadingPath}
use Rattle.chain_records.specs.Records.{ids_of}
use Rattle.chain_records.proofs.Lists.{rest_is}

pub first_of_first : (r : Records) (cs ds : List Check) (e : Refusal) → FirstIs r cs (Some e) → FirstIs r (cs ++ ds) (Some e)
first_of_first r [] ds e f = absurd cc
first_of_first r (c ∷ cs) ds e (inl f) = inl f
first_of_first r (c ∷ cs) ds e (inr f) = inr (f.0, first_of_first r cs ds e f.1)

pub first_of_rest : (r : Records) (cs ds : List Check) (o : Option Refusal) → FirstIs r cs None → FirstIs r ds o → FirstIs r (cs ++ ds) o
first_of_rest r [] ds o f g = g
first_of_rest r (c ∷ cs) ds o (inl f) g = let e = f.2 in absurd cc
first_of_rest r (c ∷ cs) ds o (inr f) g = inr (f.0, first_of_rest r cs ds o f.1 g)

-- ---- by the checks of records

pub parent_refuses : (r : Records) (vs : List Id) (e : Refusal) → FirstIs r (map parents vs) (Some e) → FirstIs r (record_checks vs) (Some e)
parent_refuses r vs e f =
    first_of_first r (map parents vs ++ ring ∷ both format capacity vs) (reading ∷ []) e (first_of_first r (map parents vs)
    (ring ∷ both format capacity vs) e f)

pub ring_refuses : (r : Records) (vs : List Id) → FirstIs r (map parents vs) None → HasRing r → FirstIs r (record_checks vs) (Some (ChainTooLong 0))
ring_refuses r vs f has =
    first_of_first r (map parents vs ++ ring ∷ both format capacity vs) (reading ∷ []) (ChainTooLong 0)
    (first_of_rest r (map parents vs) (ring ∷ both format capacity vs) (Some (ChainTooLong 0)) f (inl (ChainTooLong 0, (has, refl), refl)))

-- parents are there and form no ring
up_to_ring : (r : Records) (vs : List Id) (o : Option Refusal) → FirstIs r (map parents vs) None → (HasRing r → ⊥) → FirstIs r (both format capacity vs) o
    → FirstIs r (map parents vs ++ ring ∷ both format capacity vs) o
up_to_ring r vs o f none g = first_of_rest r (map parents vs) (ring ∷ both format capacity vs) o f (inr ((λ e is. none is.0), g))

pub value_refuses : (r : Records) (vs : List Id) (e : Refusal) → FirstIs r (map parents vs) None → (HasRing r → ⊥)
    → FirstIs r (both format capacity vs) (Some e) → FirstIs r (record_checks vs) (Some e)
value_refuses r vs e f none g = first_of_first r (map parents vs ++ ring ∷ both format capacity vs) (reading ∷ []) e (up_to_ring r vs (Some e) f none g)

pub reading_refuses : (r : Records) (vs : List Id) → FirstIs r (map parents vs) None → (HasRing r → ⊥) → FirstIs r (both format capacity vs) None
    → HasNoReading r
    → FirstIs r (record_checks vs) (Some NoReadingVolume)
reading_refuses r vs f none g reads =
    first_of_rest r (map parents vs ++ ring ∷ both format capacity vs) (reading ∷ []) (Some NoReadingVolume) (up_to_ring r vs None f none g) (inl
    (NoReadingVolume, (reads, refl), refl))

pub all_pass : (r : Records) (vs : List Id) → FirstIs r (map parents vs) None → (HasRing r → ⊥) → FirstIs r (both format capacity vs) None → (HasNoReading r → ⊥)
    → FirstIs r (record_checks vs) None
all_pass r vs f none g reads =
    first_of_rest r (map parents vs ++ ring ∷ both format capacity vs) (reading ∷ []) None (up_to_ring r vs None f none g) (inr ((λ e is. reads is.0), refl))

pub none_refuses : (r : Records) (vs path : List Id) → FirstIs r (map parents vs) None → (HasRing r → ⊥) → FirstIs r (both format capacity vs) None → IsReadingPath r path
    → FirstIs r (record_checks vs) None
none_refuses r vs path f none g reads = all_pass r vs f none g (λ no. no reads.0 reads.1 reads.2)

-- where no check of each volume refuses, none of all does
pub parents_pass : (r : Records) (vs : List Id) → ((v : Id) → Contains vs v → (e : Refusal) → RefusesBy r (parents v) e → ⊥) → FirstIs r (map parents vs) None
parents_pass r [] none = refl
parents_pass r (v ∷ vs) none = inr (none v (contains_here v vs), parents_pass r vs (λ u h. none u (contains_more v u vs h)))

pub values_pass : (r : Records) (vs : List Id) → ((v : Id) → Contains vs v → (e : Refusal) → RefusesBy r (format v) e → ⊥)
    → ((v : Id) → Contains vs v → (e : Refusal) → RefusesBy r (capacity v) e → ⊥) → FirstIs r (both format capacity vs) None
values_pass r [] raw small = refl
values_pass r (v ∷ vs) raw small =
    inr (raw v (contains_here v vs), inr (small v (contains_here v vs), values_pass r vs (λ u h. raw u (contains_more v u vs h)) (λ u h. small u (contains_more v u vs h))))

-- ---- the next volume of a list

pub values_first : (r : Records) (v : Id) (vs : List Id) (e : Refusal) → FirstIs r (format v ∷ capacity v ∷ []) (Some e)
    → FirstIs r (both format capacity (v ∷ vs)) (Some e)
values_first r v vs e f = first_of_first r (format v ∷ capacity v ∷ []) (both format capacity vs) e f

pub values_rest : (r : Records) (v : Id) (vs : List Id) (o : Option Refusal) → FirstIs r (format v ∷ capacity v ∷ []) None
    → FirstIs r (both format capacity vs) o → FirstIs r (both format capacity (v ∷ vs)) o
values_rest r v vs o f g = first_of_rest r (format v ∷ capacity v ∷ []) (both format capacity vs) o f g

abbrev pub Values : Records → Option Refusal → List Volume → Type 0
Values r o xs = FirstIs r (both format capacity (ids_of xs)) o

pub values_here : (r : Records) (xs : List Volume) (i : ℕ) (x : Volume) (e : Refusal) → i < length xs → x ≡ get_or xs i x → ((o : Option Refusal)
    → Values r o (drop i xs) → Values r o xs)
    → FirstIs r (format x.id ∷ capacity x.id ∷ []) (Some e) → Values r (Some e) xs
values_here r xs i x e lt is whole f = whole (Some e) (subst (Values r (Some e)) (sym (rest_is xs i x lt is)) (values_first r x.id (ids_of (drop
    (i + 1) xs)) e f))

pub values_on : (r : Records) (xs : List Volume) (i : ℕ) (x : Volume) (o : Option Refusal) → i < length xs → x ≡ get_or xs i x → ((o : Option Refusal)
    → Values r o (drop i xs) → Values r o xs)
    → FirstIs r (format x.id ∷ capacity x.id ∷ []) None → Values r o (drop (i + 1) xs) → Values r o xs
values_on r xs i x o lt is whole f more = whole o (subst (Values r o) (sym (rest_is xs i x lt is)) (values_rest r x.id (ids_of (drop (i + 1) xs)) o f more))
