-- A manager's tasks once one of them has another state.
use Rattle.std.proofs.Common.{◌≡◌, ◌≢◌, ◌⊎◌, Bool, List, [], ◌∷◌, Some, sym, ap, subst, ◌∙◌, inl, inr}
use Rattle.std.specs.List.{AllByRecursion}
use Rattle.std.specs.List.Sorted.{IsStrictlySortedBy}
use Rattle.std.specs.Prelude.{Contains, if◌then◌else◌, map}
use Rattle.std.specs.declared.cmp.Ordering.{Ordering}
use Rattle.std.specs.declared.cmp.Ordering.TheVariants.{Less}
use Rattle.sd_names.specs.declared.id.Id.{Id}
use Rattle.sd_names.specs.declared.task_state.TaskState.{TaskState}
use Rattle.shared_disk.specs.Places.{id_is}
use Rattle.shared_disk.proofs.Outcomes.{cons_cases, contains_here, contains_more, nothing_in}
use Rattle.shared_disk.proofs.Places.{id_is-itself}
use Rattle.spm_role.specs.Lists.{with_state}
use Rattle.task_store.specs.declared.task.Task.{Task}
use Rattle.chain_gathering.proofs.Lists.{mapped_in}
use Rattle.chain_model.proofs.Settled.{is_one}
use Rattle.chain_model.specs.Opening.{id_cmp}
use Rattle.pool_model.specs.Pool.{Pool}
use Rattle.pool_model.specs.Tasks.{AreTasks}
use Rattle.pool_model.proofs.Roles.{id_apart}
use Rattle.task_listing.specs.Listing.{Noted}

abbrev rises : Noted → Noted → Ordering
rises a b = id_cmp a.0 b.0

one_task : (x y : Task) → Some x ≡ Some y → x ≡ y
one_task x y e = cc

mapped : (f : Noted → Noted) (ts : List Noted) (a : Noted) → Contains ts a → Contains (map f ts) (f a)
mapped f [] a among = absurd (nothing_in a among)
mapped f (b ∷ ts) a among = go (cons_cases b a ts among) (λ later. mapped f ts a later)
  where
    go : (b ≡ a) ⊎ Contains ts a → (Contains ts a → Contains (map f ts) (f a)) → Contains (f b ∷ map f ts) (f a)
    go (inl same) rest = subst (λ (c : Noted). Contains (f b ∷ map f ts) (f c)) same (contains_here (f b) (map f ts))
    go (inr later) rest = contains_more (f b) (f a) (map f ts) (rest later)

module _ (t : Id) (s : TaskState) where
  all_below : (a : Noted) (ts : List Noted) → AllByRecursion (λ (b : Noted). rises a b ≡ Less) ts
      → AllByRecursion (λ (b : Noted). rises (with_state t s a) b ≡ Less) (map (with_state t s) ts)
  all_below a [] all = tt
  all_below a (b ∷ ts) all = (all.0, all_below a ts all.1)

  -- the order is by the identifiers, which stay
  rises_still : (ts : List Noted) → IsStrictlySortedBy rises ts → IsStrictlySortedBy rises (map (with_state t s) ts)
  unfolding IsStrictlySortedBy
  rises_still [] sorted = tt
  rises_still (a ∷ ts) sorted = (all_below a ts sorted.0, rises_still ts sorted.1)

  here_state : (u : Id) (z : TaskState) → u ≡ t → with_state t s (u, z) ≡ (u, s)
  here_state u z same = ap {B = Noted} (λ (b : Bool). (u, if b then s else z)) (ap (λ (i : Id). id_is i t) same ∙ id_is-itself t)

  other_state : (u : Id) (z : TaskState) → u ≢ t → with_state t s (u, z) ≡ (u, z)
  other_state u z apart = ap {B = Noted} (λ (b : Bool). (u, if b then s else z)) (id_apart u t apart)

  -- the task has this state in the one pool, and all others are the same in both
  module _ (p q : Pool) (ended : Task) (now : q.task t ≡ Some ended) (state_is : ended.state ≡ s) (others : (u : Id) → u ≢ t → q.task u ≡ p.task u) where
    pub tasks_with : (ts : List Noted) → AreTasks p ts → (was : Task) → p.task t ≡ Some was → AreTasks q (map (with_state t s) ts)
    tasks_with ts are was there = record {
      rising = rises_still ts are.rising;
      each = λ u z among. let from = mapped_in (with_state t s) ts (u, z) among in each u z from.0 from.1 from.2 (is_one from.0.0 t);
      all = λ u x is. all u x is (is_one u t);
    }
      where
        each : (u : Id) (z : TaskState) (a : Noted) → Contains ts a → with_state t s a ≡ (u, z) → (a.0 ≡ t) ⊎ (a.0 ≢ t)
            → (x : Task) × (q.task u ≡ Some x) × (x.state ≡ z)
        each u z a among is (inl same) =
            let id_same : t ≡ u = sym same ∙ ap (λ (b : Noted). b.0) is in
            let state_same : s ≡ z = ap (λ (b : Noted). b.1) (sym (here_state a.0 a.1 same) ∙ is) in
            (ended, ap (λ (i : Id). q.task i) (sym id_same) ∙ now, state_is ∙ state_same)
        each u z a among is (inr apart) =
            let whole : ◌≡◌ {A = Noted} (a.0, a.1) (u, z) = sym (other_state a.0 a.1 apart) ∙ is in
            let found = are.each a.0 a.1 among in
            (found.0, ap (λ (b : Noted). q.task b.0) (sym whole) ∙ others a.0 apart ∙ found.1, found.2 ∙ ap (λ (b : Noted). b.1) whole)

        all : (u : Id) (x : Task) → q.task u ≡ Some x → (u ≡ t) ⊎ (u ≢ t) → Contains (map (with_state t s) ts) (u, x.state)
        all u x is (inl same) =
            let ends : ended ≡ x = one_task ended x (sym now ∙ ap (λ (i : Id). q.task i) (sym same) ∙ is) in
            let state_now : s ≡ x.state = sym state_is ∙ ap (λ (y : Task). y.state) ends in
            let listed : Contains ts (u, was.state) = are.all u was (ap (λ (i : Id). p.task i) same ∙ there) in
            subst (λ (z : TaskState). Contains (map (with_state t s) ts) (u, z)) state_now
            (subst (λ (b : Noted). Contains (map (with_state t s) ts) b) (here_state u was.state same) (mapped (with_state t s) ts (u, was.state) listed))
        all u x is (inr apart) =
            subst (λ (b : Noted). Contains (map (with_state t s) ts) b) (other_state u x.state apart)
            (mapped (with_state t s) ts (u, x.state) (are.all u x (sym (others u apart) ∙ is)))
