-- The text of a task is short, and has no zero byte.
use Rattle.std.proofs.Common.{◌≡◌, ℕ, ◌+◌, ◌*◌, ◌/◌, ◌%◌, ◌<◌, ◌≤◌, List, [], ◌∷◌, ◌++◌, length, refl, arith, length-append, All, codes, ltb, true}
use Rattle.std.specs.List.{list_all}
use Rattle.std.proofs.lemmas.List.Elements.{All-nil, All-cons, All-append, All-head, All-tail, All-weaker}
use Rattle.sd_names.specs.declared.task_state.TaskState.{TaskState}
use Rattle.sd_names.specs.declared.task_state.TaskState.TheVariants as state
use Rattle.sd_names.specs.declared.verb.VerbName.{VerbName}
use Rattle.sd_names.specs.declared.verb.VerbName.TheVariants as verb
use Rattle.sd_names.proofs.IdLemmas.{id_text-length}
use Rattle.kv_text.specs.Text.{line}
use Rattle.kv_text.proofs.Line.{length-line}
use Rattle.decimal_numbers.proofs.NumberLemmas.{decimal_short}
use Rattle.task_store.specs.TaskText.{HasNoZero, IsTask, MayHave, state_text, step_key, step_lines, text_of, verb_text}
use Rattle.task_store.specs.Undo.{IsStep, kind_text, spaced, undo_text, value_words}
use Rattle.task_store.specs.declared.task.Task.{Task}
use Rattle.task_store.specs.declared.undo.Undo.{Undo}
use Rattle.task_store.specs.declared.undo.Undo.TheVariants.{RemoveImage, RemoveVolume, SetLeaf, DropDomain, FinishDelete, FinishRemove, FinishExtend, FinishDescribe}
use Rattle.task_store.proofs.Printed.{IsPrinted, printed, tested, undo_printed}

-- the length of words, each behind a space
abbrev total : List (List ℕ) → ℕ
total [] = 0
total (w ∷ ws) = length w + 1 + total ws

length-spaced : (ws : List (List ℕ)) → length (spaced ws) ≡ total ws
length-spaced [] = refl
length-spaced (w ∷ ws) = omega (arith, length-append w (spaced ws), length-spaced ws)

kind_short : (u : Undo) → length (kind_text u) ≤ 14
kind_short (RemoveImage sd image) = omega arith
kind_short (RemoveVolume sd image v) = omega arith
kind_short (SetLeaf sd image v) = omega arith
kind_short (DropDomain sd) = omega arith
kind_short (FinishDelete sd image v parent) = omega arith
kind_short (FinishRemove sd image) = omega arith
kind_short (FinishExtend sd image v capacity) = omega arith
kind_short (FinishDescribe sd image v word) = omega arith

values_short : (u : Undo) → IsStep u → total (value_words u) ≤ 312
values_short (RemoveImage sd image) s = omega (arith, id_text-length sd.0, id_text-length image.0)
values_short (RemoveVolume sd image v) s =
    omega (arith, id_text-length sd.0, id_text-length image.0, id_text-length v.0)
values_short (SetLeaf sd image v) s =
    omega (arith, id_text-length sd.0, id_text-length image.0, id_text-length v.0)
values_short (DropDomain sd) s = omega (arith, id_text-length sd.0)
values_short (FinishDelete sd image v parent) s =
    omega (arith, id_text-length sd.0, id_text-length image.0, id_text-length v.0, id_text-length parent.0)
values_short (FinishRemove sd image) s = omega (arith, id_text-length sd.0, id_text-length image.0)
values_short (FinishExtend sd image v capacity) s =
    omega (arith, id_text-length sd.0, id_text-length image.0, id_text-length v.0, decimal_short capacity (omega (arith, s.most)))
values_short (FinishDescribe sd image v word) s =
    omega (arith, id_text-length sd.0, id_text-length image.0, id_text-length v.0, s.few)

undo_short : (u : Undo) → IsStep u → length (undo_text u) ≤ 326
unfolding undo_text
undo_short u s =
    omega (arith, length-append (kind_text u) (spaced (value_words u)), length-spaced (value_words u), kind_short u, values_short u s)

steps_short : (number : ℕ) (us : List Undo) → All IsStep us → length (step_lines number us) ≤ 334 * length us
steps_short number [] all = omega arith
steps_short number (u ∷ us) all =
    let key : length (step_key number) ≡ 6 = refl in
    omega (arith, length-append (line (step_key number) (undo_text u)) (step_lines (number + 1) us), length-line (step_key number) (undo_text u), key, undo_short u (All-head IsStep u us all), steps_short (number + 1) us (All-tail IsStep u us all))

few_steps : (s : TaskState) (us : List Undo) → MayHave s us → length us ≤ 16
few_steps state.Open us h = h
few_steps state.Done us h = rw h (omega arith)
few_steps state.Undone us h = rw h (omega arith)

state_short : (s : TaskState) → length (state_text s) ≤ 6
state_short state.Open = omega arith
state_short state.Done = omega arith
state_short state.Undone = omega arith

verb_short : (v : VerbName) → length (verb_text v) ≤ 13
verb_short verb.Create = omega arith
verb_short verb.Snapshot = omega arith
verb_short verb.DeleteVolume = omega arith
verb_short verb.DeleteImage = omega arith
verb_short verb.Copy = omega arith
verb_short verb.Extend = omega arith
verb_short verb.Describe = omega arith
verb_short verb.AddDomain = omega arith

module _ (t : Task) (is : IsTask t) where
  abbrev state_line : List ℕ
  state_line = line (codes "STATE") (state_text t.state)

  abbrev verb_line : List ℕ
  verb_line = line (codes "VERB") (verb_text t.verb)

  pub is_short : length (text_of t) ≤ 8192
  unfolding text_of
  is_short =
      omega (arith, length-append (state_line ++ step_lines 0 t.steps ++ verb_line) (codes "EOF\n"), length-append (state_line ++ step_lines 0 t.steps) verb_line, length-append state_line (step_lines 0 t.steps), length-line (codes "STATE") (state_text t.state), length-line (codes "VERB") (verb_text t.verb), state_short t.state, verb_short t.verb, steps_short 0 t.steps is.values, few_steps t.state t.steps is.steps)

-- what is no zero
from_printed : (bytes : List ℕ) → IsPrinted bytes → HasNoZero bytes
from_printed bytes all = All-weaker (λ c. 31 < c) (λ c. 0 < c) (λ c h. omega arith) bytes all

line_no_zero : (key value : List ℕ) → HasNoZero key → HasNoZero value → HasNoZero (line key value)
line_no_zero key value k v =
    All-append (λ b. 0 < b) (key ++ 61 ∷ value) (10 ∷ [])
    (All-append (λ b. 0 < b) key (61 ∷ value) k (All-cons (λ b. 0 < b) 61 value (omega arith) v))
    (All-cons (λ b. 0 < b) 10 [] (omega arith) (All-nil (λ b. 0 < b)))

word : (bytes : List ℕ) → list_all (λ c. ltb 32 c) bytes ≡ true → HasNoZero bytes
word bytes h = from_printed bytes (printed bytes (tested bytes h))

key_no_zero : (number : ℕ) → HasNoZero (step_key number)
key_no_zero number =
    All-append (λ b. 0 < b) (codes "STEP") ((48 + number / 10) ∷ (48 + number % 10) ∷ []) (word (codes "STEP") refl)
    (All-cons (λ b. 0 < b) (48 + number / 10) ((48 + number % 10) ∷ []) (omega arith) (All-cons (λ b. 0 < b) (48 + number % 10) [] (omega arith) (All-nil (λ b. 0 < b))))

steps_no_zero : (number : ℕ) (us : List Undo) → All IsStep us → HasNoZero (step_lines number us)
steps_no_zero number [] all = All-nil (λ b. 0 < b)
steps_no_zero number (u ∷ us) all =
    All-append (λ b. 0 < b) (line (step_key number) (undo_text u)) (step_lines (number + 1) us)
    (line_no_zero (step_key number) (undo_text u) (key_no_zero number) (from_printed (undo_text u) (undo_printed u (All-head IsStep u us all))))
    (steps_no_zero (number + 1) us (All-tail IsStep u us all))

state_no_zero : (s : TaskState) → HasNoZero (state_text s)
state_no_zero state.Open = word (codes "OPEN") refl
state_no_zero state.Done = word (codes "DONE") refl
state_no_zero state.Undone = word (codes "UNDONE") refl

verb_no_zero : (v : VerbName) → HasNoZero (verb_text v)
verb_no_zero verb.Create = word (codes "create") refl
verb_no_zero verb.Snapshot = word (codes "snapshot") refl
verb_no_zero verb.DeleteVolume = word (codes "delete-volume") refl
verb_no_zero verb.DeleteImage = word (codes "delete-image") refl
verb_no_zero verb.Copy = word (codes "copy") refl
verb_no_zero verb.Extend = word (codes "extend") refl
verb_no_zero verb.Describe = word (codes "describe") refl
verb_no_zero verb.AddDomain = word (codes "add-domain") refl

eof_no_zero : HasNoZero (codes "EOF\n")
eof_no_zero =
    All-append (λ b. 0 < b) (codes "EOF") (10 ∷ []) (word (codes "EOF") refl)
    (All-cons (λ b. 0 < b) 10 [] (omega arith) (All-nil (λ b. 0 < b)))

module _ (t : Task) (is : IsTask t) where
  pub no_zero : HasNoZero (text_of t)
  unfolding text_of
  no_zero =
      let first = line_no_zero (codes "STATE") (state_text t.state) (word (codes "STATE") refl) (state_no_zero t.state) in
      let last = line_no_zero (codes "VERB") (verb_text t.verb) (word (codes "VERB") refl) (verb_no_zero t.verb) in
      let steps = All-append (λ b. 0 < b) (state_line t is) (step_lines 0 t.steps) first (steps_no_zero 0 t.steps is.values) in
      let front = All-append (λ b. 0 < b) (state_line t is ++ step_lines 0 t.steps) (verb_line t is) steps last in
      All-append (λ b. 0 < b) (state_line t is ++ step_lines 0 t.steps ++ verb_line t is) (codes "EOF\n") front eof_no_zero
