-- A list of tasks in which one is put in its place.
use Rattle.std.proofs.Common.{◌≡◌, ◌≢◌, ◌⊎◌, true, List, [], ◌∷◌, ◌++◌, Option, Some, None, refl, sym, ap, subst, inl, inr}
use Rattle.std.proofs.lemmas.Bool.{false≢true}
use Rattle.std.proofs.lemmas.Cmp.{nat_list_cmp_total, on_total, tied_itself}
use Rattle.std.proofs.lemmas.List.Elements.{All-contains, All-from_recursion, Contains-append_cases, Contains-append_left, Contains-append_right}
use Rattle.std.proofs.lemmas.List.Kept.{IsStrictlySortedBy-filter}
use Rattle.std.proofs.lemmas.Map.Keys.{sorted_head, sorted_tail}
use Rattle.std.specs.Cmp.{IsTotalOrder}
use Rattle.std.specs.FinSet.{nat_cmp-IsAntisymmetric, slice_cmp-IsAntisymmetric}
use Rattle.std.specs.List.{AllByRecursion}
use Rattle.std.specs.List.Sorted.{IsStrictlySortedBy}
use Rattle.std.specs.Ordering.{is_lt, ordering_reverse}
use Rattle.std.specs.Prelude.{Contains}
use Rattle.std.specs.declared.cmp.Ordering.{Ordering}
use Rattle.std.specs.declared.cmp.Ordering.TheVariants.{Less, Equal, Greater}
use Rattle.sd_names.specs.declared.id.Id.{Id}
use Rattle.sd_names.specs.declared.task_state.TaskState.{TaskState}
use Rattle.shared_disk.proofs.Outcomes.{cons_cases, contains_here, contains_more, nothing_in}
use Rattle.chain_model.specs.Opening.{id_cmp}
use Rattle.host_core.specs.declared.tasks.Part.TheVariants.{All, Above, Below}
use Rattle.host_core.specs.Memory.{Listed}
use Rattle.host_core.specs.Listed.{entry_of, listed_with, part_of}
use Rattle.host_core.proofs.Filtered.{filtered, passing}

-- ---- the order of identifiers

id_total : IsTotalOrder id_cmp
id_total = on_total (λ (v : Id). v.0) nat_list_cmp_total

less_of : (o : Ordering) → is_lt o ≡ true → o ≡ Less
less_of Less e = refl
less_of Equal e = absurd (false≢true e)
less_of Greater e = absurd (false≢true e)

lt_of : (o : Ordering) → o ≡ Less → is_lt o ≡ true
lt_of o e = ap (λ (x : Ordering). is_lt x) e

flipped : (o p : Ordering) → o ≡ ordering_reverse p → o ≡ Greater → p ≡ Less
flipped o Less e g = refl
flipped o Equal e g = absurd cc
flipped o Greater e g = absurd cc

one_id : (v w : Id) → id_cmp v w ≡ Equal → v ≡ w
one_id v w e = let same : v.0 ≡ w.0 = slice_cmp-IsAntisymmetric nat_cmp-IsAntisymmetric v.0 w.0 e in λ i. record { 0 = same i }

-- an identifier is below or above another one
which_side : (u t : Id) → u ≢ t → (id_cmp u t ≡ Less) ⊎ (id_cmp t u ≡ Less)
which_side u t apart = go (id_cmp u t) refl
  where
    go : (o : Ordering) → id_cmp u t ≡ o → (id_cmp u t ≡ Less) ⊎ (id_cmp t u ≡ Less)
    go Less e = inl e
    go Equal e = absurd (apart (one_id u t e))
    go Greater e = inr (flipped (id_cmp u t) (id_cmp t u) (id_total.antisymm u t) e)

not_below_itself : (t : Id) → id_cmp t t ≡ Less → ⊥
not_below_itself t e = let tied = tied_itself id_total t in cc

-- ---- parts of a list

-- all tasks are in the whole of a list
pub part_whole : (ts : List Listed) → part_of All ts ≡ ts
part_whole [] = refl
part_whole (a ∷ ts) = ap (λ (xs : List Listed). a ∷ xs) (part_whole ts)

-- ---- rising lists

abbrev rises : Listed → Listed → Ordering
rises a b = id_cmp a.0 b.0

all_less : (a : Listed) (xs : List Listed) → ((b : Listed) → Contains xs b → rises a b ≡ Less) → AllByRecursion (λ (y : Listed). rises a y ≡ Less) xs
all_less a [] less = tt
all_less a (x ∷ xs) less = (less x (contains_here x xs), all_less a xs (λ b among. less b (contains_more x b xs among)))

first_rises : (a : Listed) (xs : List Listed) → ((b : Listed) → Contains xs b → rises a b ≡ Less) → IsStrictlySortedBy rises xs
    → IsStrictlySortedBy rises (a ∷ xs)
unfolding IsStrictlySortedBy
first_rises a xs less s = (all_less a xs less, s)

head_less : (a b : Listed) (xs : List Listed) → IsStrictlySortedBy rises (a ∷ xs) → Contains xs b → rises a b ≡ Less
head_less a b xs s among =
    All-contains (λ (y : Listed). rises a y ≡ Less) xs b (All-from_recursion (λ (y : Listed). rises a y ≡ Less) xs (sorted_head rises a xs s)) among

joined : (xs ys : List Listed) → IsStrictlySortedBy rises xs → IsStrictlySortedBy rises ys
    → ((a b : Listed) → Contains xs a → Contains ys b → rises a b ≡ Less) → IsStrictlySortedBy rises (xs ++ ys)
joined [] ys s t below = t
joined (x ∷ xs) ys s t below =
    first_rises x (xs ++ ys) (λ b among. first b (Contains-append_cases xs ys b among))
    (joined xs ys (sorted_tail rises x xs s) t (λ a b h g. below a b (contains_more x a xs h) g))
  where
    first : (b : Listed) → Contains xs b ⊎ Contains ys b → rises x b ≡ Less
    first b (inl h) = head_less x b xs s h
    first b (inr g) = below x b (contains_here x xs) g

none_rises : IsStrictlySortedBy rises []
unfolding IsStrictlySortedBy
none_rises = tt

-- ---- the list with a task in its place

module _ (t : Id) where
  -- the task's own entry
  entry_rises : (o : Option TaskState) → IsStrictlySortedBy rises (entry_of t o)
  entry_rises None = none_rises
  entry_rises (Some s) = first_rises (t, s) [] (λ b among. absurd (nothing_in b among)) none_rises

  entry_is : (o : Option TaskState) (a : Listed) → Contains (entry_of t o) a → (a.0 ≡ t) × (o ≡ Some a.1)
  entry_is None a among = absurd (nothing_in a among)
  entry_is (Some s) a among = first (cons_cases (t, s) a [] among)
    where
      first : ((t, s) ≡ a) ⊎ Contains [] a → (a.0 ≡ t) × (Some s ≡ Some a.1)
      first (inl same) = (ap (λ (x : Listed). x.0) (sym same), ap (λ (x : Listed). Some x.1) same)
      first (inr none) = absurd (nothing_in a none)

  module _ (ts : List Listed) where
    abbrev low : List Listed
    low = part_of (Below t) ts

    abbrev high : List Listed
    high = part_of (Above t) ts

    is_low : (a : Listed) → Contains low a → Contains ts a × (id_cmp a.0 t ≡ Less)
    is_low a among = let was = filtered (λ (x : Listed). is_lt (id_cmp x.0 t)) a ts among in (was.0, less_of (id_cmp a.0 t) was.1)

    is_high : (a : Listed) → Contains high a → Contains ts a × (id_cmp t a.0 ≡ Less)
    is_high a among = let was = filtered (λ (x : Listed). is_lt (id_cmp t x.0)) a ts among in (was.0, less_of (id_cmp t a.0) was.1)

    -- it rises
    front : (o : Option TaskState) (a b : Listed) → Contains low a → Contains (entry_of t o) b → rises a b ≡ Less
    front o a b h g = subst (λ (u : Id). id_cmp a.0 u ≡ Less) (sym (entry_is o b g).0) (is_low a h).1

    behind : (o : Option TaskState) (a b : Listed) → Contains low a ⊎ Contains (entry_of t o) a → Contains high b → rises a b ≡ Less
    behind o a b (inl h) g = id_total.trans a.0 t b.0 (is_low a h).1 (is_high b g).1
    behind o a b (inr h) g = subst (λ (u : Id). id_cmp u b.0 ≡ Less) (sym (entry_is o a h).0) (is_high b g).1

    pub with_rises : (o : Option TaskState) → IsStrictlySortedBy rises ts → IsStrictlySortedBy rises (listed_with t o ts)
    with_rises o order =
        joined (low ++ entry_of t o) high
        (joined low (entry_of t o) (IsStrictlySortedBy-filter _ _ ts order) (entry_rises o) (λ a b h g. front o a b h g))
        (IsStrictlySortedBy-filter _ _ ts order)
        (λ a b h g. behind o a b (Contains-append_cases low (entry_of t o) a h) g)

    -- which tasks it has
    pub with_each : (o : Option TaskState) (a : Listed) → Contains (listed_with t o ts) a
        → (Contains ts a × (a.0 ≢ t)) ⊎ ((a.0 ≡ t) × (o ≡ Some a.1))
    with_each o a among = first (Contains-append_cases (low ++ entry_of t o) high a among)
      where
        second : Contains low a ⊎ Contains (entry_of t o) a → (Contains ts a × (a.0 ≢ t)) ⊎ ((a.0 ≡ t) × (o ≡ Some a.1))
        second (inl h) = let is = is_low a h in inl (is.0, λ same. not_below_itself t (subst (λ (u : Id). id_cmp u t ≡ Less) same is.1))
        second (inr h) = inr (entry_is o a h)

        first : Contains (low ++ entry_of t o) a ⊎ Contains high a → (Contains ts a × (a.0 ≢ t)) ⊎ ((a.0 ≡ t) × (o ≡ Some a.1))
        first (inl h) = second (Contains-append_cases low (entry_of t o) a h)
        first (inr g) = let is = is_high a g in inl (is.0, λ same. not_below_itself t (subst (λ (u : Id). id_cmp t u ≡ Less) same is.1))

    pub with_all : (o : Option TaskState) (a : Listed) → Contains ts a → a.0 ≢ t → Contains (listed_with t o ts) a
    with_all o a among apart = go (which_side a.0 t apart)
      where
        go : (id_cmp a.0 t ≡ Less) ⊎ (id_cmp t a.0 ≡ Less) → Contains (listed_with t o ts) a
        go (inl less) = Contains-append_left (low ++ entry_of t o) high a (Contains-append_left low (entry_of t o) a
            (passing (λ (x : Listed). is_lt (id_cmp x.0 t)) a ts (lt_of (id_cmp a.0 t) less) among))
        go (inr more) = Contains-append_right (low ++ entry_of t o) high a
            (passing (λ (x : Listed). is_lt (id_cmp t x.0)) a ts (lt_of (id_cmp t a.0) more) among)

    pub with_it : (s : TaskState) → Contains (listed_with t (Some s) ts) (t, s)
    with_it s = Contains-append_left (low ++ entry_of t (Some s)) high (t, s)
        (Contains-append_right low (entry_of t (Some s)) (t, s) (contains_here (t, s) []))
