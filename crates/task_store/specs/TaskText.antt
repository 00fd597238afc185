-- The text of a task, whole: its lines in the order in which they are written.
use Rattle.std.specs.Prelude.{◌≡◌, ℕ, ◌+◌, ◌/◌, ◌%◌, ◌<◌, ◌≤◌, List, [], ◌∷◌, ◌++◌, length, All, codes}
use Rattle.kv_text.specs.Text.{line}
use Rattle.sd_names.specs.declared.task_state.TaskState.{TaskState}
use Rattle.sd_names.specs.declared.task_state.TaskState.TheVariants as state
use Rattle.sd_names.specs.declared.verb.VerbName.{VerbName}
use Rattle.sd_names.specs.declared.verb.VerbName.TheVariants as verb
use Rattle.task_store.specs.Undo.{IsStep, HasIds, undo_text}
use Rattle.task_store.specs.declared.task.Task.{Task}
use Rattle.task_store.specs.declared.undo.Undo.{Undo}

-- a task with a step more
abbrev pub with_step : Undo → Task → Task
with_step step t = record { id = t.id; verb = t.verb; state = t.state; steps = t.steps ++ step ∷ [] }

abbrev pub state_text : TaskState → List ℕ
state_text state.Open = codes "OPEN"
state_text state.Done = codes "DONE"
state_text state.Undone = codes "UNDONE"

abbrev pub verb_text : VerbName → List ℕ
verb_text verb.Create = codes "create"
verb_text verb.Snapshot = codes "snapshot"
verb_text verb.DeleteVolume = codes "delete-volume"
verb_text verb.DeleteImage = codes "delete-image"
verb_text verb.Copy = codes "copy"
verb_text verb.Extend = codes "extend"
verb_text verb.Describe = codes "describe"
verb_text verb.AddDomain = codes "add-domain"

-- the keys of steps: STEP00 to STEP15
abbrev pub step_key : ℕ → List ℕ
step_key number = codes "STEP" ++ (48 + number / 10) ∷ (48 + number % 10) ∷ []

-- the lines of steps, the first of which has this number
abbrev pub step_lines : ℕ → List Undo → List ℕ
step_lines number [] = []
step_lines number (step ∷ steps) = line (step_key number) (undo_text step) ++ step_lines (number + 1) steps

-- the whole text, which a line `EOF` closes
unfoldable pub text_of : Task → List ℕ
text_of t =
    line (codes "STATE") (state_text t.state)
    ++ step_lines 0 t.steps
    ++ line (codes "VERB") (verb_text t.verb)
    ++ codes "EOF\n"

-- no byte is zero
abbrev pub HasNoZero : List ℕ → Type 0
HasNoZero text = All (λ b. 0 < b) text

-- only an open task has steps
abbrev pub MayHave : TaskState → List Undo → Type 0
MayHave state.Open steps = length steps ≤ 16
MayHave state.Done steps = steps ≡ []
MayHave state.Undone steps = steps ≡ []

-- a task that has a text: steps only where it is open, at most 16, each with values that a script line can have
pub record IsTask (t : Task) : Type 0 where
  pub steps : MayHave t.state t.steps
  pub values : All IsStep t.steps

-- such a task, whose identifiers have sixteen bytes, as all of a program have
pub record IsValid (t : Task) : Type 0 where
  pub task : IsTask t
  pub ids : All HasIds t.steps
