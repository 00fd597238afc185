-- The list of a pool's tasks, with another state of one of them.
use Rattle.std.proofs.Common.{◌≡◌, ◌⊎◌, List, [], ◌∷◌, if◌then◌else◌, map, subst, inl, inr}
use Rattle.std.specs.List.{AllByRecursion}
use Rattle.std.specs.List.Sorted.{IsStrictlySortedBy}
use Rattle.std.specs.Prelude.{Contains}
use Rattle.std.specs.declared.cmp.Ordering.TheVariants.{Less}
use Rattle.sd_names.specs.declared.id.Id.{Id}
use Rattle.sd_names.specs.declared.task_state.TaskState.{TaskState}
use Rattle.shared_disk.specs.Places.{id_is}
use Rattle.shared_disk.proofs.Outcomes.{cons_cases, contains_here, contains_more, nothing_in}
use Rattle.chain_model.specs.Opening.{id_cmp}

abbrev pub Listed : Type 0
Listed = Id × TaskState

abbrev pub mark_one : Id → TaskState → Listed → Listed
mark_one t s a = (a.0, if id_is a.0 t then s else a.1)

abbrev pub marked : Id → TaskState → List Listed → List Listed
marked t s ts = map (mark_one t s) ts

all_above : (t : Id) (s : TaskState) (b : Id) (ts : List Listed) → AllByRecursion (λ (y : Listed). id_cmp b y.0 ≡ Less) ts → AllByRecursion (λ (y : Listed). id_cmp b y.0 ≡ Less) (marked t s ts)
all_above t s b [] all = tt
all_above t s b (a ∷ ts) all = (all.0, all_above t s b ts all.1)

pub rising_marked : (t : Id) (s : TaskState) (ts : List Listed) → IsStrictlySortedBy (λ (a b : Listed). id_cmp a.0 b.0) ts → IsStrictlySortedBy (λ (a b : Listed). id_cmp a.0 b.0) (marked t s ts)
unfolding IsStrictlySortedBy
rising_marked t s [] rising = tt
rising_marked t s (a ∷ ts) rising = (all_above t s a.0 ts rising.0, rising_marked t s ts rising.1)

pub marked_in : (t : Id) (s : TaskState) (a : Listed) (ts : List Listed) → Contains ts a → Contains (marked t s ts) (mark_one t s a)
marked_in t s a [] among = absurd (nothing_in a among)
marked_in t s a (b ∷ ts) among = go (marked_in t s a ts) (cons_cases b a ts among)
  where
    go : (Contains ts a → Contains (marked t s ts) (mark_one t s a)) → (b ≡ a) ⊎ Contains ts a → Contains (marked t s (b ∷ ts)) (mark_one t s a)
    go rest (inl same) = subst (λ (x : Listed). Contains (marked t s (b ∷ ts)) (mark_one t s x)) same (contains_here (mark_one t s b) (marked t s ts))
    go rest (inr more) = contains_more (mark_one t s b) (mark_one t s a) (marked t s ts) (rest more)

pub marked_back : (t : Id) (s : TaskState) (b : Listed) (ts : List Listed) → Contains (marked t s ts) b → (a : Listed) × (Contains ts a × (mark_one t s a ≡ b))
marked_back t s b [] among = absurd (nothing_in b among)
marked_back t s b (c ∷ ts) among = go (marked_back t s b ts) (cons_cases (mark_one t s c) b (marked t s ts) among)
  where
    go : (Contains (marked t s ts) b → (a : Listed) × (Contains ts a × (mark_one t s a ≡ b))) → (mark_one t s c ≡ b) ⊎ Contains (marked t s ts) b → (a : Listed) × (Contains (c ∷ ts) a × (mark_one t s a ≡ b))
    go rest (inl same) = (c, (contains_here c ts, same))
    go rest (inr more) = let found = rest more in (found.0, (contains_more c found.0 ts found.1.0, found.1.1))
