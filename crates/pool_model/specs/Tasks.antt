-- The tasks of a pool: which are open, what they make or remove, and what settles them.
use Rattle.std.specs.Prelude.{◌≡◌, ℕ, ◌+◌, Bool, true, false, List, [], ◌∷◌, ◌++◌, All, Contains, Some, None}
use Rattle.std.specs.List.Sorted.{IsStrictlySortedBy}
use Rattle.sd_names.specs.declared.id.Id.{Id}
use Rattle.sd_names.specs.declared.task_state.TaskState.{TaskState}
use Rattle.sd_names.specs.declared.task_state.TaskState.TheVariants as state
use Rattle.sd_names.specs.declared.verb.VerbName.{VerbName}
use Rattle.sd_names.specs.declared.verb.VerbName.TheVariants as word
use Rattle.task_store.specs.declared.task.Task.{Task}
use Rattle.task_store.specs.declared.undo.Undo.{Undo}
use Rattle.task_store.specs.declared.undo.Undo.TheVariants as undo
use Rattle.lease_area.specs.declared.sector.Kind.TheVariants as kind
use Rattle.lease_area.specs.declared.sector.LeaseRecord.{LeaseRecord}
use Rattle.lease_area.specs.declared.sector.Sector.TheVariants.{Empty}
use Rattle.chain_model.specs.Opening.{id_cmp}
use Rattle.pool_model.specs.Pool.{Pool, put_image, put_sector, put_task}
use Rattle.pool_model.specs.Leases.{IsUnnamed, NamesAt}

-- an open task
abbrev pub IsOpen : Pool → Id → Task → Type 0
IsOpen p t x = (p.task t ≡ Some x) × (x.state ≡ state.Open)

abbrev pub NoneOpen : Pool → Type 0
NoneOpen p = (t : Id) (x : Task) → IsOpen p t x → ⊥

-- the step makes or removes the whole image
abbrev pub MakesImage : Undo → Id → Id → Type 0
MakesImage (undo.RemoveImage sd i) domain image = (sd ≡ domain) × (i ≡ image)
MakesImage (undo.FinishRemove sd i) domain image = (sd ≡ domain) × (i ≡ image)
MakesImage step domain image = ⊥

-- An open task makes or removes the image. Until it is settled nothing but the image's sector is claimed of it.
abbrev pub IsMaking : Pool → Id → Id → Type 0
IsMaking p sd i = (t : Id) × ((x : Task) × IsOpen p t x × ((step : Undo) × Contains x.steps step × MakesImage step sd i))

-- ---- the tasks of the verbs

abbrev pub new_task : Id → VerbName → List Undo → Task
new_task t verb steps = record { id = t; verb = verb; state = state.Open; steps = steps }

abbrev pub ended_task : TaskState → Task → Task
ended_task to x = record { id = x.id; verb = x.verb; state = to; steps = [] }

-- Open tasks of the verbs that are built. Of the others there is none: no pool with one is stood for until its verb is built.
abbrev pub IsBuiltOpen : VerbName → List Undo → Type 0
IsBuiltOpen word.Create steps = (sd : Id) × ((i : Id) × (steps ≡ undo.RemoveImage sd i ∷ []))
IsBuiltOpen word.DeleteImage steps = (sd : Id) × ((i : Id) × (steps ≡ undo.FinishRemove sd i ∷ []))
IsBuiltOpen word.Snapshot steps = ⊥
IsBuiltOpen word.DeleteVolume steps = ⊥
IsBuiltOpen word.Copy steps = ⊥
IsBuiltOpen word.Extend steps = ⊥
IsBuiltOpen word.Describe steps = ⊥
IsBuiltOpen word.AddDomain steps = ⊥

-- exactly the tasks of a pool, in order of their identifiers
pub record AreTasks (p : Pool) (ts : List (Id × TaskState)) : Type 0 where
  pub rising : IsStrictlySortedBy (λ (a b : Id × TaskState). id_cmp a.0 b.0) ts
  pub each : (t : Id) (s : TaskState) → Contains ts (t, s) → (x : Task) × (p.task t ≡ Some x) × (x.state ≡ s)
  pub all : (t : Id) (x : Task) → p.task t ≡ Some x → Contains ts (t, x.state)

-- ---- settling an open task: its steps, the last one first

-- what is left to do of an image that is to be removed: it goes, and then its sector is emptied
pub data RemovesImage (sd i : Id) (p q : Pool) : Type 0 where
  gone : q ≡ put_image p sd i None → RemovesImage sd i p q
  emptied : {k : ℕ} {r : LeaseRecord} → p.image sd i ≡ None → NamesAt p sd i k r → r.kind ≡ kind.Task → q ≡ put_sector p sd k Empty → RemovesImage sd i p q

abbrev pub IsRemoved : Id → Id → Pool → Type 0
IsRemoved sd i p = (p.image sd i ≡ None) × IsUnnamed p sd i

-- a change that settling a step makes
abbrev pub StepChanges : Undo → Pool → Pool → Type 0
StepChanges (undo.RemoveImage sd i) p q = RemovesImage sd i p q
StepChanges (undo.FinishRemove sd i) p q = RemovesImage sd i p q
StepChanges (undo.RemoveVolume sd i v) p q = ⊥
StepChanges (undo.SetLeaf sd i v) p q = ⊥
StepChanges (undo.DropDomain sd) p q = ⊥
StepChanges (undo.FinishDelete sd i v parent) p q = ⊥
StepChanges (undo.FinishExtend sd i v capacity) p q = ⊥
StepChanges (undo.FinishDescribe sd i v text) p q = ⊥

-- nothing is left to do of a step
abbrev pub IsStepDone : Pool → Undo → Type 0
IsStepDone p (undo.RemoveImage sd i) = IsRemoved sd i p
IsStepDone p (undo.FinishRemove sd i) = IsRemoved sd i p
IsStepDone p (undo.RemoveVolume sd i v) = ⊥
IsStepDone p (undo.SetLeaf sd i v) = ⊥
IsStepDone p (undo.DropDomain sd) = ⊥
IsStepDone p (undo.FinishDelete sd i v parent) = ⊥
IsStepDone p (undo.FinishExtend sd i v capacity) = ⊥
IsStepDone p (undo.FinishDescribe sd i v text) = ⊥

-- a step that finishes what its verb began, where the others take it back
abbrev pub is_finish : Undo → Bool
is_finish (undo.FinishDelete sd i v parent) = true
is_finish (undo.FinishRemove sd i) = true
is_finish (undo.FinishExtend sd i v capacity) = true
is_finish (undo.FinishDescribe sd i v text) = true
is_finish step = false

-- done exactly where all steps finish, else undone
pub record SettledState (steps : List Undo) (s : TaskState) : Type 0 where
  pub done : All (λ step. is_finish step ≡ true) steps → s ≡ state.Done
  pub undone : (step : Undo) → Contains steps step → is_finish step ≡ false → s ≡ state.Undone

-- One change of settling the open task t, with the number of tasks that were settled before and after it. A step comes once
-- nothing is left to do of those behind it; the task ends once nothing is left to do of any.
pub data Settles (t : Id) (n : ℕ) (p : Pool) (m : ℕ) (q : Pool) : Type 0 where
  step : {x : Task} (before : List Undo) (step : Undo) (behind : List Undo) → IsOpen p t x → x.steps ≡ before ++ step ∷ behind → All (IsStepDone p) behind
      → StepChanges step p q → m ≡ n → Settles t n p m q
  ended : {x : Task} (s : TaskState) → IsOpen p t x → All (IsStepDone p) x.steps → SettledState x.steps s
      → q ≡ put_task p t (Some (ended_task s x)) → m ≡ n + 1 → Settles t n p m q
