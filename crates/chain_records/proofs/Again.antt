-- Records of which no check refuses pass on the way of settling too.
use Rattle.std.proofs.Common.{◌≡◌, ◌⊎◌, List, [], ◌∷◌, Option, Some, None, refl, sym, ap, ◌∙◌, subst, inl, inr, arith}
use Rattle.std.specs.Prelude.{option_and_then, slice_get}
use Rattle.std.specs.List.{Contains}
use Rattle.sd_names.specs.declared.id.Id.{Id}
use Rattle.sd_names.specs.declared.refusal.Refusal.{Refusal}
use Rattle.sd_names.specs.declared.refusal.Refusal.TheVariants.{NoReadingVolume, WrongParent}
use Rattle.shared_disk.proofs.Outcomes.{contains_here}
use Rattle.volume_meta.specs.declared.record.VolumeRecord.{VolumeRecord}
use Rattle.chain_model.specs.Chain.{HasRing, IsBelow, counting}
use Rattle.chain_model.specs.Opening.{IsRawAbove, IsTooSmall, IsUsed, capacity, format, parents, reading}
use Rattle.chain_model.specs.Reading.{HasNoReading}
use Rattle.chain_model.specs.Records.{Records, parent, parent_in}
use Rattle.chain_model.specs.Up.{up_of}
use Rattle.chain_model.proofs.Chains.{one_below}
use Rattle.chain_model.proofs.Rings.{no_chain}
use Rattle.chain_records.specs.declared.volume.Volume.{Volume}
use Rattle.chain_records.specs.Checks.{FirstIs, IsUnknown, record_checks}
use Rattle.chain_records.specs.Paths.{HasChain}
use Rattle.chain_records.specs.Records.{ids_of, records_in}
use Rattle.chain_records.specs.Settling.{ArePartlyRewritten, IsRewritten}
use Rattle.chain_records.proofs.Firsts.{all_pass, parents_pass, values_pass}
use Rattle.chain_records.proofs.Lists.{some_record}
use Rattle.chain_records.proofs.Partly.{chain_alike, legal_alike, path_alike, reading_alike, same_record, still_chain}
use Rattle.chain_records.proofs.Settled.{counted, parent_rewritten}
use Rattle.chain_records.proofs.Short.{asks_capacity, asks_format, asks_parents, asks_reading, chain_inside, has_chain, passes}

-- what a record said before, where it is there now
record_before : (r : Records) (v : Id) (o a : Option VolumeRecord) (z : VolumeRecord) → (a ≡ o) ⊎ IsRewritten r v o a → a ≡ Some z
    → (x : VolumeRecord) × (o ≡ Some x) × (z.format ≡ x.format) × (z.capacity ≡ x.capacity)
record_before r v o a z (inl same) e = (z, sym same ∙ e, refl, refl)
record_before r v None a z (inr is) e = absurd cc
record_before r v (Some x) a z (inr is) e =
    let same = same_record a z (record x { parent = is.0; voltype = is.1 }) e is.2 in
    (x, refl, ap (λ (y : VolumeRecord). y.format) same, ap (λ (y : VolumeRecord). y.capacity) same)

none_before : (r : Records) (v : Id) (o a : Option VolumeRecord) → (a ≡ o) ⊎ IsRewritten r v o a → a ≡ None → o ≡ None
none_before r v o a (inl same) e = sym same ∙ e
none_before r v None a (inr is) e = refl
none_before r v (Some x) a (inr is) e = let some = is.2 in absurd cc

up_among : (r : Records) (w : Id) (vs : List Id) → up_of r vs ≡ Some w → Contains (counting r vs) w
up_among r w vs e = go (counting r vs) e
  where
    go : (us : List Id) → slice_get us 0 ≡ Some w → Contains us w
    go [] f = absurd cc
    go (u ∷ us) f = let same : u ≡ w = cc in subst (λ (z : Id). Contains (u ∷ us) z) same (contains_here u us)

up_alike : (r s : Records) (v : Id) (vs ws : List Id) → ArePartlyRewritten r s → IsBelow r v vs → IsBelow s v ws → up_of s ws ≡ up_of r vs
up_alike r s v vs ws are b c =
    let alike = (chain_alike r s v vs are b).1 in
    ap (λ (us : List Id). up_of s us) (one_below s v ws alike.0 c alike.1) ∙ ap (λ (us : List Id). slice_get us 0) alike.2

used_before : (r s : Records) (v : Id) → ArePartlyRewritten r s → ((u : Id) → HasChain r u) → IsUsed s v → IsUsed r v
used_before r s v are chains used =
    let chain = chains used.0 in (
      used.0,
      chain.0,
      sym (legal_alike r s used.0 are) ∙ used.2,
      chain.1,
      subst (λ (ps : List Id). Contains ps v) (path_alike r s used.0 chain.0 used.1 are chain.1 used.3) used.4,
    )

small_before : (r s : Records) (v : Id) (e : Refusal) → ArePartlyRewritten r s → ((u : Id) → HasChain r u) → IsTooSmall s v e → IsTooSmall r v e
small_before r s v e are chains small =
    let own = record_before r v (r v) (s v) small.0 (are v) small.1 in
    let other = record_before r small.5 (r small.5) (s small.5) small.7 (are small.5) small.8 in
    let chain = chains v in (
      own.0,
      own.1,
      used_before r s v are chains small.2,
      chain.0,
      chain.1,
      small.5,
      sym (up_alike r s v chain.0 small.3 are chain.1 small.4) ∙ small.6,
      other.0,
      other.1,
      omega (arith, small.9, own.3, other.3),
      small.10,
    )

raw_before : (r s : Records) (v : Id) (e : Refusal) → ArePartlyRewritten r s → ((u : Id) → HasChain r u) → IsRawAbove s v e → IsRawAbove r v e
raw_before r s v e are chains raw =
    let own = record_before r v (r v) (s v) raw.0 (are v) raw.1 in
    (own.0, own.1, sym own.2 ∙ raw.2, (λ none. raw.3 (go (are v) none)), raw.4)
  where
    go : (s v ≡ r v) ⊎ IsRewritten r v (r v) (s v) → parent r v ≡ None → parent s v ≡ None
    go (inl same) none = ap (λ (o : Option VolumeRecord). option_and_then parent_in o) same ∙ none
    go (inr is) none = parent_rewritten r s v [] is none

unknown_before : (xs : List Volume) (s : Records) (v : Id) (e : Refusal) → ArePartlyRewritten (records_in xs) s → FirstIs (records_in xs) (record_checks (ids_of xs)) None
    → Contains (ids_of xs) v → IsUnknown s v e → ⊥
unknown_before xs s v e are f h unknown = go (are v)
  where
    gone : records_in xs unknown.0 ≡ None
    gone = none_before (records_in xs) unknown.0 (records_in xs unknown.0) (s unknown.0) (are unknown.0) unknown.1.1

    not_both : (o : Option VolumeRecord) (x : VolumeRecord) → o ≡ None → o ≡ Some x → ⊥
    not_both o x p q = cc

    chain : HasChain (records_in xs) v
    chain = has_chain xs v f

    go : (s v ≡ records_in xs v) ⊎ IsRewritten (records_in xs) v (records_in xs v) (s v) → ⊥
    go (inl same) =
        passes (records_in xs) (record_checks (ids_of xs)) f (parents v) (asks_parents (ids_of xs) v h) (WrongParent v unknown.0)
        (unknown.0, (sym (ap (λ (o : Option VolumeRecord). option_and_then parent_in o) same) ∙ unknown.1.0, gone), refl)
    go (inr is) =
        let up = sym (parent_rewritten (records_in xs) s v chain.0 is chain.1) ∙ unknown.1.0 in
        let among = counted (records_in xs) unknown.0 chain.0 (up_among (records_in xs) unknown.0 chain.0 up) in
        let has = some_record xs unknown.0 (chain_inside xs v unknown.0 chain.0 f h chain.1 among.0) in
        not_both (records_in xs unknown.0) has.0 gone has.1

pub pass_again : (xs : List Volume) (s : Records) → ArePartlyRewritten (records_in xs) s → FirstIs (records_in xs) (record_checks (ids_of xs)) None → FirstIs s (record_checks (ids_of xs)) None
pass_again xs s are f =
    all_pass s (ids_of xs)
    (parents_pass s (ids_of xs) (λ v h e unknown. unknown_before xs s v e are f h unknown))
    no_rings
    (
    values_pass s (ids_of xs)
    (λ v h e raw. passes (records_in xs) (record_checks (ids_of xs)) f (format v) (asks_format (ids_of xs) v h) e (raw_before (records_in xs) s v e are chains raw))
    (λ v h e small. passes (records_in xs) (record_checks (ids_of xs)) f (capacity v) (asks_capacity (ids_of xs) v h) e (small_before (records_in xs) s v e are chains small))
    )
    no_reading
  where
    chains : (u : Id) → HasChain (records_in xs) u
    chains u = has_chain xs u f

    no_rings : HasRing s → ⊥
    no_rings ring =
        let chain = chains ring.0 in
        let still = still_chain (records_in xs) s ring.0 chain.0 are chain.1 in
        no_chain s ring.0 still.0 (ring.0, ring.1, ring.1) still.1

    no_reading : HasNoReading s → ⊥
    no_reading none =
        passes (records_in xs) (record_checks (ids_of xs)) f reading (asks_reading (ids_of xs)) NoReadingVolume
        ((λ v vs reads. let still = reading_alike (records_in xs) s v vs are reads in none v still.0 still.1), refl)
