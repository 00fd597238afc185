-- Volumes that are smaller than those below them.
use Rattle.std.proofs.Common.{◌≡◌, ◌<◌, ℕ, List, Option, Some, None, refl, ap, ◌∙◌, subst, arith}
use Rattle.std.specs.Option.{option_map}
use Rattle.sd_names.specs.declared.fault.Key.TheVariants as key
use Rattle.sd_names.specs.declared.fault.VolumeFault.TheVariants.{BadValue}
use Rattle.sd_names.specs.declared.id.Id.{Id}
use Rattle.sd_names.specs.declared.refusal.Refusal.{Refusal}
use Rattle.sd_names.specs.declared.refusal.Refusal.TheVariants.{MetaCorrupt}
use Rattle.volume_meta.specs.declared.record.VolumeRecord.{VolumeRecord}
use Rattle.chain_model.specs.Records.{Records}
use Rattle.chain_model.specs.Chain.{ComesToRing, IsBelow}
use Rattle.chain_model.specs.Opening.{IsTooSmall, IsUsed}
use Rattle.chain_model.specs.Up.{up_of}
use Rattle.chain_model.proofs.Chains.{one_below, no_id, same_id}
use Rattle.chain_model.proofs.Rings.{no_chain}
use Rattle.chain_records.specs.Paths.{IsSmaller, capacity_in}

record_of_capacity : (o : Option VolumeRecord) (n : ℕ) → option_map (λ (x : VolumeRecord). x.capacity) o ≡ Some n
    → (x : VolumeRecord) × (o ≡ Some x) × (x.capacity ≡ n)
record_of_capacity None n e = absurd cc
record_of_capacity (Some x) n e = (x, refl, cc)

pub too_small_if : (r : Records) (v : Id) → IsSmaller r v → IsUsed r v → IsTooSmall r v (MetaCorrupt v (BadValue key.Cap))
too_small_if r v s used =
    let own = record_of_capacity (r v) s.4 s.6 in
    let other = record_of_capacity (r s.2) s.5 s.7 in
    (own.0, own.1, used, s.0, s.1, s.2, s.3, other.0, other.1, omega (arith, s.8, own.2, other.2), refl)

capacity_here : (r : Records) (v : Id) (x : VolumeRecord) → r v ≡ Some x → capacity_in r v ≡ Some x.capacity
capacity_here r v x e = ap (λ (o : Option VolumeRecord). option_map (λ (y : VolumeRecord). y.capacity) o) e

pub too_small_is : (r : Records) (v : Id) (e : Refusal) → IsTooSmall r v e → IsSmaller r v
too_small_is r v e s =
    (s.3, s.4, s.5, s.6, s.0.capacity, s.7.capacity, capacity_here r v s.0 s.1, capacity_here r s.5 s.7 s.8, s.9)

pub too_small_used : (r : Records) (v : Id) (e : Refusal) → IsTooSmall r v e → IsUsed r v
too_small_used r v e s = s.2

pub ringed_not_smaller : (r : Records) (v : Id) → ComesToRing r v → IsSmaller r v → ⊥
ringed_not_smaller r v ring s = no_chain r v s.0 ring s.1

-- the parent that counts is that of the one chain
up_here : (r : Records) (v : Id) (vs : List Id) → IsBelow r v vs → (s : IsSmaller r v) → up_of r vs ≡ Some s.2
up_here r v vs b s = ap (λ (us : List Id). up_of r us) (one_below r v vs s.0 b s.1) ∙ s.3

pub base_not_smaller : (r : Records) (v : Id) (vs : List Id) → IsBelow r v vs → up_of r vs ≡ None → IsSmaller r v → ⊥
base_not_smaller r v vs b none s = no_id (up_of r vs) s.2 none (up_here r v vs b s)

no_number : (o : Option ℕ) (a : ℕ) → o ≡ None → o ≡ Some a → ⊥
no_number o a e f = cc

same_number : (o : Option ℕ) (a b : ℕ) → o ≡ Some a → o ≡ Some b → a ≡ b
same_number o a b e f = cc

pub smaller_than : (r : Records) (v w : Id) (vs : List Id) (a b : ℕ) → IsBelow r v vs → up_of r vs ≡ Some w → capacity_in r v ≡ Some a
    → capacity_in r w ≡ Some b → IsSmaller r v → a < b
smaller_than r v w vs a b below up own other s =
    let same = same_id (up_of r vs) s.2 w (up_here r v vs below s) up in
    let one = same_number (capacity_in r v) s.4 a s.6 own in
    let two = same_number (capacity_in r w) s.5 b (subst (λ (u : Id). capacity_in r u ≡ Some s.5) same s.7) other in
    omega (arith, s.8, one, two)

-- where both have a record, both have a capacity
pub smaller_has_both : (r : Records) (v w : Id) (vs : List Id) → IsBelow r v vs → up_of r vs ≡ Some w → IsSmaller r v
    → (a : ℕ) × (b : ℕ) × (capacity_in r v ≡ Some a) × (capacity_in r w ≡ Some b)
smaller_has_both r v w vs below up s =
    let same = same_id (up_of r vs) s.2 w (up_here r v vs below s) up in
    (s.4, s.5, s.6, subst (λ (u : Id). capacity_in r u ≡ Some s.5) same s.7)

pub without_capacity : (r : Records) (v w : Id) (vs : List Id) → IsBelow r v vs → up_of r vs ≡ Some w → capacity_in r v ≡ None → IsSmaller r v → ⊥
without_capacity r v w vs below up none s = no_number (capacity_in r v) s.4 none s.6

pub without_other : (r : Records) (v w : Id) (vs : List Id) → IsBelow r v vs → up_of r vs ≡ Some w → capacity_in r w ≡ None → IsSmaller r v → ⊥
without_other r v w vs below up none s = let both = smaller_has_both r v w vs below up s in no_number (capacity_in r w) both.1 none both.3
