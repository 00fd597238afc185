-- The domains that a master's text lists, in order of their identifiers.
use Rattle.std.proofs.Common.{◌≡◌, ◌&&◌, true, false, Bool, List, [], ◌∷◌, refl}
use Rattle.std.proofs.lemmas.Bool.{false≢true}
use Rattle.std.proofs.lemmas.Cmp.{nat_list_cmp_total, on_total}
use Rattle.std.specs.Cmp.{IsTotalOrder}
use Rattle.std.specs.List.{AllByRecursion}
use Rattle.std.specs.List.Sorted.{IsStrictlySortedBy}
use Rattle.std.specs.Ordering.{is_lt}
use Rattle.std.specs.declared.cmp.Ordering.{Ordering}
use Rattle.std.specs.declared.cmp.Ordering.TheVariants.{Equal, Greater, Less}
use Rattle.sd_names.specs.declared.id.Id.{Id}
use Rattle.domain_meta.specs.Values.{is_below, is_rising}
use Rattle.chain_model.specs.Opening.{id_cmp}

id_total : IsTotalOrder id_cmp
id_total = on_total (λ (v : Id). v.0) nat_list_cmp_total

less_of : (o : Ordering) → is_lt o ≡ true → o ≡ Less
less_of Less e = refl
less_of Equal e = absurd (false≢true e)
less_of Greater e = absurd (false≢true e)

both : (a b : Bool) → (a && b) ≡ true → (a ≡ true) × (b ≡ true)
both true true e = (refl, refl)
both true false e = absurd (false≢true e)
both false b e = absurd (false≢true e)

-- whatever is below the first is below all
below_all : (a b : Id) (more : List Id) → id_cmp a b ≡ Less → AllByRecursion (λ y. id_cmp b y ≡ Less) more → AllByRecursion (λ y. id_cmp a y ≡ Less) more
below_all a b [] first rest = tt
below_all a b (y ∷ more) first rest = (id_total.trans a b y first rest.0, below_all a b more first rest.1)

pub rising_sorted : (ids : List Id) → is_rising ids ≡ true → IsStrictlySortedBy id_cmp ids
unfolding IsStrictlySortedBy
rising_sorted [] is = tt
rising_sorted (a ∷ []) is = (tt, tt)
rising_sorted (a ∷ b ∷ more) is =
    let parts = both (is_below a b) (is_rising (b ∷ more)) is in
    let sorted = rising_sorted (b ∷ more) parts.1 in
    let first = less_of (id_cmp a b) parts.0 in
    ((first, below_all a b more first sorted.0), sorted)
