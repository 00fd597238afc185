-- The names of tasks are in the order of their identifiers, and what a listing has passed.
use Rattle.std.proofs.Common.{◌≡◌, ◌≢◌, ◌⊎◌, ℕ, List, [], ◌∷◌, ◌++◌, Option, Some, None, append-nil, refl, sym, ap, subst, inl, inr}
use Rattle.std.proofs.lemmas.Cmp.{nat_list_cmp_total, on_total, tied_itself}
use Rattle.std.specs.Cmp.{IsTotalOrder}
use Rattle.std.specs.List.{AllByRecursion}
use Rattle.std.specs.List.Sorted.{IsStrictlySortedBy}
use Rattle.std.specs.Ordering.{nat_cmp, ordering_then}
use Rattle.std.specs.Prelude.{Contains}
use Rattle.std.specs.declared.cmp.Ordering.{Ordering}
use Rattle.std.specs.declared.cmp.Ordering.TheVariants.{Equal, Greater, Less}
use Rattle.sd_names.specs.Id.{IsIdBytes, id_text}
use Rattle.sd_names.specs.Place.{NameHasIds, name_cmp, path_cmp}
use Rattle.sd_names.specs.declared.id.Id.{Id}
use Rattle.sd_names.specs.declared.place.Name.{Name}
use Rattle.sd_names.specs.declared.place.Name.TheVariants as name
use Rattle.sd_names.proofs.PlaceLemmas.{name_cmp-equal, name_cmp-total}
use Rattle.shared_disk.specs.NameCalls.{IsNameAbove}
use Rattle.shared_disk.proofs.Outcomes.{contains_here, contains_more}
use Rattle.chain_model.specs.Opening.{id_cmp}
use Rattle.chain_gathering.proofs.Orders.{id_same, which_less}
use Rattle.chain_gathering.proofs.Texts.{texts_rise}
use Rattle.task_listing.specs.Listing.{Noted, stage_for}
use Rattle.task_listing.specs.declared.listing.Stage.TheVariants.{Asking}

id_total : IsTotalOrder id_cmp
id_total = on_total (λ (v : Id). v.0) nat_list_cmp_total

not_less_itself : (n : Name) → name_cmp n n ≡ Less → ⊥
not_less_itself n e = let tied = tied_itself name_cmp-total n in cc

not_both_less : (n m : Name) → name_cmp n m ≡ Less → name_cmp m n ≡ Less → ⊥
not_both_less n m e f = not_less_itself n (name_cmp-total.trans n m n e f)

-- names of tasks rise as their identifiers do
name_less : (a b : Id) → IsIdBytes a.0 → IsIdBytes b.0 → id_cmp a b ≡ Less → name_cmp (name.Task a) (name.Task b) ≡ Less
name_less a b is_a is_b less = ap (λ (o : Ordering). ordering_then o (nat_cmp 1 1)) texts
  where
    texts : path_cmp (id_text a.0) (id_text b.0) ≡ Less
    texts = subst (λ (xs : List ℕ). path_cmp xs (id_text b.0) ≡ Less) (append-nil (id_text a.0))
        (subst (λ (ys : List ℕ). path_cmp (id_text a.0 ++ []) ys ≡ Less) (append-nil (id_text b.0)) (texts_rise a.0 b.0 [] [] is_a is_b less))

reversed : (a b : Id) → id_cmp a b ≡ Greater → id_cmp b a ≡ Less
reversed a b e = go (id_cmp b a) refl
  where
    go : (o : Ordering) → id_cmp b a ≡ o → id_cmp b a ≡ Less
    go Less f = f
    go Equal f = absurd (let same = id_total.antisymm a b in cc)
    go Greater f = absurd (let same = id_total.antisymm a b in cc)

-- and the other way round
pub id_less : (a b : Id) → IsIdBytes a.0 → IsIdBytes b.0 → name_cmp (name.Task a) (name.Task b) ≡ Less → id_cmp a b ≡ Less
id_less a b is_a is_b less = go (id_cmp a b) refl
  where
    go : (o : Ordering) → id_cmp a b ≡ o → id_cmp a b ≡ Less
    go Less e = e
    go Equal e = absurd (not_less_itself (name.Task a) (subst (λ (i : Id). name_cmp (name.Task a) (name.Task i) ≡ Less) (sym (id_same a b e)) less))
    go Greater e = absurd (not_both_less (name.Task a) (name.Task b) less (name_less b a is_b is_a (reversed a b e)))

-- ---- what is still to come behind a name

-- whatever isn't below the next name is that name, or above it
pub met_or_above : (n m : Name) → NameHasIds n → NameHasIds m → name_cmp n m ≢ Greater → (n ≡ m) ⊎ (name_cmp n m ≡ Less)
met_or_above n m is_n is_m not_greater = go (which_less n m)
  where
    go : (name_cmp n m ≡ Less) ⊎ ((name_cmp n m ≡ Equal) ⊎ (name_cmp m n ≡ Less)) → (n ≡ m) ⊎ (name_cmp n m ≡ Less)
    go (inl less) = inr less
    go (inr (inl equal)) = inl (name_cmp-equal n m is_n is_m equal)
    go (inr (inr more)) = absurd (by (name_cmp n m) refl)
      where
        by : (o : Ordering) → name_cmp n m ≡ o → ⊥
        by Less e = not_both_less n m e more
        by Equal e = not_less_itself m (subst (λ (k : Name). name_cmp m k ≡ Less) (name_cmp-equal n m is_n is_m e) more)
        by Greater e = not_greater e

-- what is above a later name is above an earlier one
pub above_later : (after : Option Name) (n m : Name) → IsNameAbove after n → name_cmp n m ≡ Less → IsNameAbove after m
above_later None n m above less = tt
above_later (Some a) n m above less = name_cmp-total.trans a n m above less

-- a name of a task, or another one
pub which_name : (n : Name) → ((u : Id) × (n ≡ name.Task u)) ⊎ ((stage_for n ≡ Asking (Some n)) × ((u : Id) → n ≢ name.Task u))
which_name (name.Task u) = inl (u, refl)
which_name name.Metadata = inr (refl, λ u e. cc)
which_name name.MetadataNew = inr (refl, λ u e. cc)
which_name name.Leases = inr (refl, λ u e. cc)
which_name name.Inbox = inr (refl, λ u e. cc)
which_name name.Outbox = inr (refl, λ u e. cc)
which_name (name.Volume v) = inr (refl, λ u e. cc)
which_name (name.Meta v) = inr (refl, λ u e. cc)
which_name (name.MetaNew v) = inr (refl, λ u e. cc)
which_name (name.MetaVolatile v) = inr (refl, λ u e. cc)
which_name (name.VolumeLease v) = inr (refl, λ u e. cc)
which_name (name.TaskNew t) = inr (refl, λ u e. cc)

pub one_task : (t u : Id) → name.Task t ≡ name.Task u → t ≡ u
one_task t u e = cc

-- ---- rising lists

abbrev rises : Noted → Noted → Ordering
rises a b = id_cmp a.0 b.0

last_below : (xs : List Noted) (y x : Noted) → AllByRecursion (λ (z : Noted). rises x z ≡ Less) xs → rises x y ≡ Less
    → AllByRecursion (λ (z : Noted). rises x z ≡ Less) (xs ++ y ∷ [])
last_below [] y x all less = (less, tt)
last_below (z ∷ xs) y x all less = (all.0, last_below xs y x all.1 less)

-- a task above all others is put behind them
pub rises_still : (xs : List Noted) (y : Noted) → IsStrictlySortedBy rises xs → ((x : Noted) → Contains xs x → rises x y ≡ Less)
    → IsStrictlySortedBy rises (xs ++ y ∷ [])
unfolding IsStrictlySortedBy
rises_still [] y sorted below = (tt, tt)
rises_still (x ∷ xs) y sorted below =
    (last_below xs y x sorted.0 (below x (contains_here x xs)), rises_still xs y sorted.1 (λ z among. below z (contains_more x z xs among)))

pub none_rise : IsStrictlySortedBy rises []
unfolding IsStrictlySortedBy
none_rise = tt
