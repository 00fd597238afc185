-- What a task's text says: `STATE`, then the steps, only where the task is open, then `VERB`, then `EOF`, and nothing
-- behind it. The last line feed may lack.
use Rattle.std.specs.Prelude.{ℕ, ◌+◌, ◌==◌, Bool, true, false, if◌then◌else◌, List, [], ◌∷◌, length, nat_lt, codes, Option, Some, None, Result, Ok, Err}
use Rattle.std.specs.List.{slice_split}
use Rattle.std.specs.Option.{option_map, option_and_then}
use Rattle.std.specs.Str.{bytes_eq}
use Rattle.kv_text.specs.Text.{KeyValue, is_eof, item_of}
use Rattle.sd_names.specs.Id.{id_of}
use Rattle.sd_names.specs.declared.id.Id.{Id}
use Rattle.sd_names.specs.declared.refusal.Refusal.{Refusal}
use Rattle.sd_names.specs.declared.refusal.Refusal.TheVariants.{TaskCorrupt}
use Rattle.sd_names.specs.declared.task_state.TaskState.{TaskState}
use Rattle.sd_names.specs.declared.task_state.TaskState.TheVariants as state
use Rattle.sd_names.specs.declared.verb.VerbName.{VerbName}
use Rattle.sd_names.specs.declared.verb.VerbName.TheVariants as verb
use Rattle.task_store.specs.Parts.{is_byte}
use Rattle.task_store.specs.TaskText.{step_key}
use Rattle.task_store.specs.Values.{capacity_of, description_of}
use Rattle.task_store.specs.declared.reading.Body.{Body}
use Rattle.task_store.specs.declared.task.Task.{Task}
use Rattle.task_store.specs.declared.undo.Undo.{Undo}
use Rattle.task_store.specs.declared.undo.Undo.TheVariants.{RemoveImage, RemoveVolume, SetLeaf, DropDomain, FinishDelete, FinishRemove, FinishExtend, FinishDescribe}

-- the value of the first word, and the words behind it
abbrev pub first_value : {X : Type 0} → (List ℕ → Option X) → List (List ℕ) → Option (X × List (List ℕ))
first_value meaning [] = None
first_value meaning (word ∷ words) = option_map (λ x. (x, words)) (meaning word)

abbrev pub image_first : List (List ℕ) → Option ((Id × Id) × List (List ℕ))
image_first words =
    option_and_then
    (λ sd. option_map (λ image. ((sd.0, image.0), image.1)) (first_value id_of sd.1))
    (first_value id_of words)

abbrev pub volume_first : List (List ℕ) → Option ((Id × Id × Id) × List (List ℕ))
volume_first words =
    option_and_then
    (λ ids. option_map (λ v. ((ids.0.0, ids.0.1, v.0), v.1)) (first_value id_of ids.1))
    (image_first words)

-- a volume and a further value
abbrev pub volume_and : {X : Type 0} → (List ℕ → Option X) → List (List ℕ) → Option ((Id × Id × Id × X) × List (List ℕ))
volume_and meaning words =
    option_and_then
    (λ ids. option_map (λ x. ((ids.0.0, ids.0.1, ids.0.2, x.0), x.1)) (first_value meaning ids.1))
    (volume_first words)

abbrev pub delete_first : List (List ℕ) → Option (Undo × List (List ℕ))
delete_first words = option_map (λ r. (FinishDelete r.0.0 r.0.1 r.0.2 r.0.3, r.1)) (volume_and id_of words)

abbrev pub extend_first : List (List ℕ) → Option (Undo × List (List ℕ))
extend_first words = option_map (λ r. (FinishExtend r.0.0 r.0.1 r.0.2 r.0.3, r.1)) (volume_and capacity_of words)

abbrev pub describe_first : List (List ℕ) → Option (Undo × List (List ℕ))
describe_first words = option_map (λ r. (FinishDescribe r.0.0 r.0.1 r.0.2 r.0.3, r.1)) (volume_and description_of words)

-- a step of a kind, by the words of its values, and the words behind them
unfoldable pub values_in : List ℕ → List (List ℕ) → Option (Undo × List (List ℕ))
values_in kind words =
    if bytes_eq kind (codes "RemoveImage") then option_map (λ r. (RemoveImage r.0.0 r.0.1, r.1)) (image_first words)
    else if bytes_eq kind (codes "RemoveVolume") then option_map (λ r. (RemoveVolume r.0.0 r.0.1 r.0.2, r.1)) (volume_first words)
    else if bytes_eq kind (codes "SetLeaf") then option_map (λ r. (SetLeaf r.0.0 r.0.1 r.0.2, r.1)) (volume_first words)
    else if bytes_eq kind (codes "DropDomain") then option_map (λ r. (DropDomain r.0, r.1)) (first_value id_of words)
    else if bytes_eq kind (codes "FinishDelete") then delete_first words
    else if bytes_eq kind (codes "FinishRemove") then option_map (λ r. (FinishRemove r.0.0 r.0.1, r.1)) (image_first words)
    else if bytes_eq kind (codes "FinishExtend") then extend_first words
    else if bytes_eq kind (codes "FinishDescribe") then describe_first words
    else None

-- nothing stands behind what was read
abbrev pub alone : {X : Type 0} → X × List (List ℕ) → Option X
alone (x, []) = Some x
alone (x, _ ∷ _) = None

abbrev pub undo_in : List (List ℕ) → Option Undo
undo_in [] = None
undo_in (kind ∷ words) = option_and_then alone (values_in kind words)

-- the step of a value
unfoldable pub undo_of : List ℕ → Option Undo
undo_of value = undo_in (slice_split (is_byte 32) value)

-- the value of a line, if this is its key
abbrev pub value_at : List ℕ → Result KeyValue ℕ → Option (List ℕ)
value_at key (Ok pair) = if bytes_eq pair.key key then Some pair.value else None
value_at key (Err number) = None

unfoldable pub keyed : List ℕ → List ℕ → Option (List ℕ)
keyed key line = value_at key (item_of 0 line)

unfoldable pub verb_of : List ℕ → Option VerbName
verb_of word =
    if bytes_eq word (codes "create") then Some verb.Create
    else if bytes_eq word (codes "snapshot") then Some verb.Snapshot
    else if bytes_eq word (codes "delete-volume") then Some verb.DeleteVolume
    else if bytes_eq word (codes "delete-image") then Some verb.DeleteImage
    else if bytes_eq word (codes "copy") then Some verb.Copy
    else if bytes_eq word (codes "extend") then Some verb.Extend
    else if bytes_eq word (codes "describe") then Some verb.Describe
    else if bytes_eq word (codes "add-domain") then Some verb.AddDomain
    else None

unfoldable pub state_of : List ℕ → Option TaskState
state_of word =
    if bytes_eq word (codes "OPEN") then Some state.Open
    else if bytes_eq word (codes "DONE") then Some state.Done
    else if bytes_eq word (codes "UNDONE") then Some state.Undone
    else None

-- the line `EOF` and nothing behind it; what stands behind its line feed is one empty part
abbrev pub is_end : List (List ℕ) → Bool
is_end [] = false
is_end (eof ∷ []) = is_eof eof
is_end (eof ∷ part ∷ []) = if is_eof eof then length part == 0 else false
is_end (eof ∷ part ∷ _ ∷ _) = false

-- the verb of the last lines
abbrev pub closed : Option VerbName → Bool → Option Body
closed (Some verb) true = Some (record { verb = verb; steps = [] })
closed (Some verb) false = None
closed None end = None

unfoldable pub ending : List ℕ → List (List ℕ) → Option Body
ending line more = closed (option_and_then verb_of (keyed (codes "VERB") line)) (is_end more)

-- the value of the step with this number, of which there are 16
unfoldable pub step_value : ℕ → List ℕ → Option (List ℕ)
step_value number line = if nat_lt number 16 then keyed (step_key number) line else None

-- a step before others
abbrev pub onto : Option Undo → Option Body → Option Body
onto (Some step) (Some body) = Some (record { verb = body.verb; steps = step ∷ body.steps })
onto (Some step) None = None
onto None body = None

-- a line that is a step, or the first behind the steps
abbrev pub at_line : Option (List ℕ) → Option Body → Option Body → Option Body
at_line (Some value) behind last = onto (undo_of value) behind
at_line None behind last = last

-- steps, of which the first has this number, and the last lines
abbrev pub body_in : ℕ → List (List ℕ) → Option Body
body_in number [] = None
body_in number (line ∷ more) = at_line (step_value number line) (body_in (number + 1) more) (ending line more)

-- the number of the first step that may come: none may where the task isn't open
abbrev pub first_number : TaskState → ℕ
first_number state.Open = 0
first_number state.Done = 16
first_number state.Undone = 16

abbrev pub task_from : Id → TaskState → Body → Task
task_from id state body = record { id = id; verb = body.verb; state = state; steps = body.steps }

-- the state on the first line, and the lines behind it
abbrev pub first_state : List (List ℕ) → Option (TaskState × List (List ℕ))
first_state [] = None
first_state (line ∷ more) =
    option_map (λ state. (state, more)) (option_and_then state_of (keyed (codes "STATE") line))

abbrev pub task_in : Id → Option (TaskState × List (List ℕ)) → Option Task
task_in id None = None
task_in id (Some (state, lines)) = option_map (task_from id state) (body_in (first_number state) lines)

-- the task of a text, where it has the form
unfoldable pub task_of : Id → List ℕ → Option Task
task_of id text = task_in id (first_state (slice_split (is_byte 10) text))

-- what isn't of the form is refused
abbrev pub or_corrupt : {X : Type 0} → Id → Option X → Result X Refusal
or_corrupt id (Some x) = Ok x
or_corrupt id None = Err (TaskCorrupt id)
