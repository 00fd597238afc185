-- The changes of a settling are those of the mark `settle` of the pool's machine.
use Rattle.std.proofs.Common.{◌≡◌, ◌≢◌, ◌⊎◌, ℕ, ◌+◌, List, ◌∷◌, Option, Some, None, drop, refl, sym, ap, subst, ◌∙◌, inl, inr}
use Rattle.std.specs.Prelude.{All}
use Rattle.sd_names.specs.declared.id.Id.{Id}
use Rattle.sd_names.specs.declared.task_state.TaskState.{TaskState}
use Rattle.task_store.specs.declared.task.Task.{Task}
use Rattle.task_store.specs.declared.undo.Undo.{Undo}
use Rattle.task_store.specs.declared.undo.Undo.TheVariants as undo
use Rattle.lease_area.specs.declared.sector.Kind.TheVariants as kind
use Rattle.lease_area.specs.declared.sector.LeaseRecord.{LeaseRecord}
use Rattle.chain_model.proofs.Settled.{is_one}
use Rattle.pool_model.specs.Leases.{NamesAt}
use Rattle.pool_model.specs.Marks.{Mark, repeat, settle}
use Rattle.pool_model.specs.Pool.{Pool, put_image, put_task}
use Rattle.pool_model.specs.Rules.{Maker, Passing, again, here, spent}
use Rattle.pool_model.specs.Tasks.{IsOpen, IsRemoved, IsStepDone, MakesImage, NoneOpen, RemovesImage, SettledState, StepChanges, emptied, ended, ended_task, gone, step}
use Rattle.task_settling.specs.Settling.{IsLastOf, cleared_by}
use Rattle.task_settling.proofs.Emptying.{image_gone, image_same, was_named, without_image}
use Rattle.task_settling.proofs.Lists.{split_at}

none_is : (sd i : Id) → ◌≡◌ {A = Option (Id × Id)} None (Some (sd, i)) → ⊥
none_is sd i e = cc

one_some : (u v : Id × Id) → Some u ≡ Some v → u ≡ v
one_some u v e = cc

one_pair : (a b sd i : Id) → ◌≡◌ {A = Option (Id × Id)} (Some (a, b)) (Some (sd, i)) → (a ≡ sd) × (b ≡ i)
one_pair a b sd i e = let same = one_some (a, b) (sd, i) e in (ap (λ (u : Id × Id). u.0) same, ap (λ (u : Id × Id). u.1) same)

-- ---- a step that clears an image

pub changes_by : (s : Undo) (sd i : Id) (p q : Pool) → cleared_by s ≡ Some (sd, i) → RemovesImage sd i p q → StepChanges s p q
changes_by (undo.RemoveImage a b) sd i p q is removes = let same = one_pair a b sd i is in
    subst (λ (x : Id). RemovesImage x b p q) (sym same.0) (subst (λ (x : Id). RemovesImage sd x p q) (sym same.1) removes)
changes_by (undo.FinishRemove a b) sd i p q is removes = let same = one_pair a b sd i is in
    subst (λ (x : Id). RemovesImage x b p q) (sym same.0) (subst (λ (x : Id). RemovesImage sd x p q) (sym same.1) removes)
changes_by (undo.RemoveVolume a b v) sd i p q is removes = absurd (none_is sd i is)
changes_by (undo.SetLeaf a b v) sd i p q is removes = absurd (none_is sd i is)
changes_by (undo.DropDomain a) sd i p q is removes = absurd (none_is sd i is)
changes_by (undo.FinishDelete a b v parent) sd i p q is removes = absurd (none_is sd i is)
changes_by (undo.FinishExtend a b v capacity) sd i p q is removes = absurd (none_is sd i is)
changes_by (undo.FinishDescribe a b v text) sd i p q is removes = absurd (none_is sd i is)

pub done_by : (s : Undo) (sd i : Id) (p : Pool) → cleared_by s ≡ Some (sd, i) → IsRemoved sd i p → IsStepDone p s
done_by (undo.RemoveImage a b) sd i p is removed = let same = one_pair a b sd i is in
    subst (λ (x : Id). IsRemoved x b p) (sym same.0) (subst (λ (x : Id). IsRemoved sd x p) (sym same.1) removed)
done_by (undo.FinishRemove a b) sd i p is removed = let same = one_pair a b sd i is in
    subst (λ (x : Id). IsRemoved x b p) (sym same.0) (subst (λ (x : Id). IsRemoved sd x p) (sym same.1) removed)
done_by (undo.RemoveVolume a b v) sd i p is removed = absurd (none_is sd i is)
done_by (undo.SetLeaf a b v) sd i p is removed = absurd (none_is sd i is)
done_by (undo.DropDomain a) sd i p is removed = absurd (none_is sd i is)
done_by (undo.FinishDelete a b v parent) sd i p is removed = absurd (none_is sd i is)
done_by (undo.FinishExtend a b v capacity) sd i p is removed = absurd (none_is sd i is)
done_by (undo.FinishDescribe a b v text) sd i p is removed = absurd (none_is sd i is)

pub makes_by : (s : Undo) (sd i : Id) → cleared_by s ≡ Some (sd, i) → MakesImage s sd i
makes_by (undo.RemoveImage a b) sd i is = one_pair a b sd i is
makes_by (undo.FinishRemove a b) sd i is = one_pair a b sd i is
makes_by (undo.RemoveVolume a b v) sd i is = absurd (none_is sd i is)
makes_by (undo.SetLeaf a b v) sd i is = absurd (none_is sd i is)
makes_by (undo.DropDomain a) sd i is = absurd (none_is sd i is)
makes_by (undo.FinishDelete a b v parent) sd i is = absurd (none_is sd i is)
makes_by (undo.FinishExtend a b v capacity) sd i is = absurd (none_is sd i is)
makes_by (undo.FinishDescribe a b v text) sd i is = absurd (none_is sd i is)

-- ---- what is done stays done

pub done_stays : (s : Undo) (p q : Pool) → ((sd i : Id) → IsRemoved sd i p → IsRemoved sd i q) → IsStepDone p s → IsStepDone q s
done_stays (undo.RemoveImage sd i) p q stays is = stays sd i is
done_stays (undo.FinishRemove sd i) p q stays is = stays sd i is
done_stays (undo.RemoveVolume a b v) p q stays is = absurd is
done_stays (undo.SetLeaf a b v) p q stays is = absurd is
done_stays (undo.DropDomain a) p q stays is = absurd is
done_stays (undo.FinishDelete a b v parent) p q stays is = absurd is
done_stays (undo.FinishExtend a b v capacity) p q stays is = absurd is
done_stays (undo.FinishDescribe a b v text) p q stays is = absurd is

pub all_done_stay : (ss : List Undo) (p q : Pool) → ((sd i : Id) → IsRemoved sd i p → IsRemoved sd i q) → All (IsStepDone p) ss → All (IsStepDone q) ss
all_done_stay ss p q stays all = λ k x less. done_stays _ p q stays (all k x less)

module _ (p : Pool) (sd i : Id) (k : ℕ) (r : LeaseRecord) (names : NamesAt p sd i k r) where
  pub removed_stays : (a j : Id) → IsRemoved a j p → IsRemoved a j (without_image p sd i k)
  removed_stays a j removed = (image (is_one a sd) (is_one j i), λ n s x. removed.1 n s (was_named p sd i k r names a j n s x))
    where
      image : (a ≡ sd) ⊎ (a ≢ sd) → (j ≡ i) ⊎ (j ≢ i) → (without_image p sd i k).image a j ≡ None
      image (inr unlike) one = image_same p sd i k r names a j (λ same _. unlike same) ∙ removed.0
      image (inl same) (inr unlike) = image_same p sd i k r names a j (λ _ alike. unlike alike) ∙ removed.0
      image (inl same) (inl alike) = subst (λ (b : Id). (without_image p sd i k).image b j ≡ None) (sym same)
          (subst (λ (b : Id). (without_image p sd i k).image sd b ≡ None) (sym alike) (image_gone p sd i k r names))

  -- the image goes, and then its sector: two changes of the task's step
  module _ (x : Task) (opened : IsOpen p x.id x) (count : ℕ) (s : Undo) (last : IsLastOf x.steps count s) (clears : cleared_by s ≡ Some (sd, i))
      (behind : All (IsStepDone p) (drop count x.steps)) (task : r.kind ≡ kind.Task) where
    abbrev between : Pool
    between = put_image p sd i None

    gone_between : between.image sd i ≡ None
    gone_between = image_gone p sd i k r names

    stays_between : (a j : Id) → IsRemoved a j p → IsRemoved a j between
    stays_between a j removed = (
      (removed_stays a j removed).0,
      λ n y at. removed.1 n y (record { slot = at.slot; lease = at.lease; image = at.image }),
    )

    names_between : NamesAt between sd i k r
    names_between = record { slot = names.slot; lease = names.lease; image = names.image }

    pub emptying_passes : (c : Maker) (ms : List Mark) (n : ℕ) → Passing c (repeat settle ∷ ms) n p (repeat settle ∷ ms) n (without_image p sd i k)
    emptying_passes c ms n =
        again (x.id, step last.0 s (drop count x.steps) opened (split_at x.steps last.0 count s last.1) behind (changes_by s sd i p between clears (gone refl)) refl)
        (again (
          x.id,
          step last.0 s (drop count x.steps) opened (split_at x.steps last.0 count s last.1)
              (all_done_stay (drop count x.steps) p between stays_between behind) (changes_by s sd i between (without_image p sd i k) clears (emptied gone_between names_between task refl)) refl,
        ) here)

-- the task ends
pub settled_passes : (p : Pool) (x : Task) (to : TaskState) → IsOpen p x.id x → All (IsStepDone p) x.steps → SettledState x.steps to → NoneOpen (put_task p x.id (Some (ended_task to x)))
    → (c : Maker) (ms : List Mark) (n : ℕ) → Passing c (repeat settle ∷ ms) n p ms (n + 1) (put_task p x.id (Some (ended_task to x)))
settled_passes p x to opened done state none c ms n = again (x.id, ended to opened done state refl refl) (spent none here)

-- or it ends, and whether another one is open isn't asked yet
pub settled_again : (p : Pool) (x : Task) (to : TaskState) → IsOpen p x.id x → All (IsStepDone p) x.steps → SettledState x.steps to
    → (c : Maker) (ms : List Mark) (n : ℕ) → Passing c (repeat settle ∷ ms) n p (repeat settle ∷ ms) (n + 1) (put_task p x.id (Some (ended_task to x)))
settled_again p x to opened done state c ms n = again (x.id, ended to opened done state refl refl) here
