-- The text of a valid task, read again.
use Rattle.std.proofs.Common.{◌≡◌, ℕ, ◌+◌, ◌/◌, ◌%◌, ◌^◌, ◌<◌, ◌≤◌, Bool, true, false, cond, List, [], ◌∷◌, ◌++◌, length, refl, ap, ◌∙◌, arith, append_assoc, All, codes, decimal, Option, Some, None, le-leb, eq-eqb, lt-ltb, nat_lt}
use Rattle.std.proofs.lemmas.Bool.Decides.{nat_tests}
use Rattle.std.proofs.lemmas.List.Elements.{All-head, All-tail}
use Rattle.std.proofs.lemmas.Slice.Eq.{bytes_eq-Decides}
use Rattle.sd_names.specs.declared.id.Id.{Id}
use Rattle.sd_names.specs.declared.task_state.TaskState.{TaskState}
use Rattle.sd_names.specs.declared.task_state.TaskState.TheVariants as state
use Rattle.sd_names.specs.declared.verb.VerbName.{VerbName}
use Rattle.sd_names.specs.declared.verb.VerbName.TheVariants as verb
use Rattle.kv_text.specs.Text.{IsWritable, KeyValue, is_equals_sign, is_line_feed, line, lines, whole}
use Rattle.kv_text.proofs.ReadBack.{item_of-whole, lines-line}
use Rattle.kv_text.proofs.ValuesBack.{id_of-id_text}
use Rattle.decimal_numbers.proofs.NumberLemmas.{number_of-decimal}
use Rattle.task_store.specs.ReadTask.{body_in, ending, keyed, state_of, step_value, task_in, task_of, undo_in, undo_of, values_in, verb_of}
use Rattle.task_store.specs.TaskText.{IsValid, MayHave, state_text, step_key, step_lines, text_of, verb_text}
use Rattle.task_store.specs.Undo.{HasIds, IsStep, kind_text, undo_text, value_words}
use Rattle.task_store.specs.Values.{IsCapacity, IsDescription, capacity_of, description_of}
use Rattle.task_store.specs.declared.task.Task.{Task}
use Rattle.task_store.specs.declared.undo.Undo.{Undo}
use Rattle.task_store.specs.declared.undo.Undo.TheVariants.{RemoveImage, RemoveVolume, SetLeaf, DropDomain, FinishDelete, FinishRemove, FinishExtend, FinishDescribe}
use Rattle.task_store.proofs.Printed.{kind_word, one_line, split_spaced, undo_printed, value_word}

capacity_back : (n : ℕ) → IsCapacity n → capacity_of (decimal n) ≡ Some n
unfolding capacity_of
capacity_back n is =
    rw (number_of-decimal n (omega (arith, is.most)), eq-eqb (n % 512) 0 is.blocks, le-leb 512 n is.least, le-leb n (2 ^ 40) is.most, (bytes_eq-Decides (decimal n) (decimal n)).1 refl) refl

description_back : (word : List ℕ) → IsDescription word → description_of word ≡ Some word
unfolding description_of
description_back word is = rw (le-leb 1 (length word) is.some, le-leb (length word) 200 is.few, is.printed) refl

-- the words of a step
words_back : (u : Undo) → IsStep u → HasIds u → undo_in (kind_text u ∷ value_words u) ≡ Some u
unfolding values_in
words_back (RemoveImage sd image) s h = rw (id_of-id_text sd.0 h.0, id_of-id_text image.0 h.1) refl
words_back (RemoveVolume sd image v) s h =
    rw (id_of-id_text sd.0 h.0, id_of-id_text image.0 h.1, id_of-id_text v.0 h.2) refl
words_back (SetLeaf sd image v) s h =
    rw (id_of-id_text sd.0 h.0, id_of-id_text image.0 h.1, id_of-id_text v.0 h.2) refl
words_back (DropDomain sd) s h = rw (id_of-id_text sd.0 h) refl
words_back (FinishDelete sd image v parent) s h =
    rw (id_of-id_text sd.0 h.0, id_of-id_text image.0 h.1, id_of-id_text v.0 h.2, id_of-id_text parent.0 h.3) refl
words_back (FinishRemove sd image) s h = rw (id_of-id_text sd.0 h.0, id_of-id_text image.0 h.1) refl
words_back (FinishExtend sd image v capacity) s h =
    rw (id_of-id_text sd.0 h.0, id_of-id_text image.0 h.1, id_of-id_text v.0 h.2, capacity_back capacity s) refl
words_back (FinishDescribe sd image v word) s h =
    rw (id_of-id_text sd.0 h.0, id_of-id_text image.0 h.1, id_of-id_text v.0 h.2, description_back word s) refl

undo_back : (u : Undo) → IsStep u → HasIds u → undo_of (undo_text u) ≡ Some u
unfolding undo_of undo_text
undo_back u s h =
    ap undo_in (split_spaced (kind_text u) (value_words u) (kind_word u) (value_word u s)) ∙ words_back u s h

-- a line that was written has its key
keyed_back : (p : KeyValue) → IsWritable p → keyed p.key (whole p) ≡ Some p.value
unfolding keyed
keyed_back p w = rw (item_of-whole 0 p w, (bytes_eq-Decides p.key p.key).1 refl) refl

verb_back : (v : VerbName) → verb_of (verb_text v) ≡ Some v
unfolding verb_of
verb_back verb.Create = refl
verb_back verb.Snapshot = refl
verb_back verb.DeleteVolume = refl
verb_back verb.DeleteImage = refl
verb_back verb.Copy = refl
verb_back verb.Extend = refl
verb_back verb.Describe = refl
verb_back verb.AddDomain = refl

state_back : (s : TaskState) → state_of (state_text s) ≡ Some s
unfolding state_of
state_back state.Open = refl
state_back state.Done = refl
state_back state.Undone = refl

abbrev verb_pair : VerbName → KeyValue
verb_pair v = record { key = codes "VERB"; value = verb_text v }

verb_writable : (v : VerbName) → IsWritable (verb_pair v)
verb_writable verb.Create = record { key = refl; divided = refl; value = refl }
verb_writable verb.Snapshot = record { key = refl; divided = refl; value = refl }
verb_writable verb.DeleteVolume = record { key = refl; divided = refl; value = refl }
verb_writable verb.DeleteImage = record { key = refl; divided = refl; value = refl }
verb_writable verb.Copy = record { key = refl; divided = refl; value = refl }
verb_writable verb.Extend = record { key = refl; divided = refl; value = refl }
verb_writable verb.Describe = record { key = refl; divided = refl; value = refl }
verb_writable verb.AddDomain = record { key = refl; divided = refl; value = refl }

abbrev state_pair : TaskState → KeyValue
state_pair s = record { key = codes "STATE"; value = state_text s }

state_writable : (s : TaskState) → IsWritable (state_pair s)
state_writable state.Open = record { key = refl; divided = refl; value = refl }
state_writable state.Done = record { key = refl; divided = refl; value = refl }
state_writable state.Undone = record { key = refl; divided = refl; value = refl }

-- the last lines
abbrev last : VerbName → List ℕ
last v = line (codes "VERB") (verb_text v) ++ codes "EOF\n"

abbrev nothing : Option (List ℕ)
nothing = None

neither : (b : Bool) → cond b nothing nothing ≡ nothing
neither true = refl
neither false = refl

-- the line of the verb is no step
no_step : (number : ℕ) (v : VerbName) → step_value number (whole (verb_pair v)) ≡ None
unfolding step_value keyed
no_step number v = rw (item_of-whole 0 (verb_pair v) (verb_writable v)) (neither (nat_lt number 16))

ending_back : (v : VerbName) → ending (whole (verb_pair v)) (lines (codes "EOF\n")) ≡ Some (record { verb = v; steps = [] })
unfolding ending
ending_back v = rw (keyed_back (verb_pair v) (verb_writable v), verb_back v) refl

last_back : (number : ℕ) (v : VerbName) → body_in number (lines (last v)) ≡ Some (record { verb = v; steps = [] })
last_back number v =
    rw (lines-line (verb_pair v) (codes "EOF\n") (verb_writable v), no_step number v) (ending_back v)

-- the key of a step
digit_line_feed : (d : ℕ) → d < 10 → is_line_feed (48 + d) ≡ false
digit_line_feed d h = grind (arith, nat_tests)

digit_equals_sign : (d : ℕ) → d < 10 → is_equals_sign (48 + d) ≡ false
digit_equals_sign d h = grind (arith, nat_tests)

abbrev step_pair : ℕ → Undo → KeyValue
step_pair number u = record { key = step_key number; value = undo_text u }

step_writable : (number : ℕ) (u : Undo) → number < 16 → IsStep u → IsWritable (step_pair number u)
step_writable number u few s =
    let tens : number / 10 < 10 = omega arith in
    let ones : number % 10 < 10 = omega arith in
    record {
      key = rw (digit_line_feed (number / 10) tens, digit_line_feed (number % 10) ones) refl;
      divided = rw (digit_equals_sign (number / 10) tens, digit_equals_sign (number % 10) ones) refl;
      value = one_line (undo_text u) (undo_printed u s);
    }

step_back : (number : ℕ) (u : Undo) → number < 16 → IsStep u → step_value number (whole (step_pair number u)) ≡ Some (undo_text u)
unfolding step_value
step_back number u few s =
    rw (lt-ltb number 16 few) (keyed_back (step_pair number u) (step_writable number u few s))

-- steps and the last lines
body_back : (number : ℕ) (us : List Undo) (v : VerbName) → number + length us ≤ 16 → All IsStep us → All HasIds us → body_in number (lines (step_lines number us ++ last v)) ≡ Some (record { verb = v; steps = us })
body_back number [] v few steps ids = last_back number v
body_back number (u ∷ us) v few steps ids =
    let below : number < 16 = omega arith in
    let s = All-head IsStep u us steps in
    let behind = body_back (number + 1) us v (omega arith) (All-tail IsStep u us steps) (All-tail HasIds u us ids) in
    let cut : lines (step_lines number (u ∷ us) ++ last v) ≡ whole (step_pair number u) ∷ lines (step_lines (number + 1) us ++ last v) =
    ap lines (append_assoc (line (step_key number) (undo_text u)) (step_lines (number + 1) us) (last v)) ∙ lines-line (step_pair number u) (step_lines (number + 1) us ++ last v) (step_writable number u below s) in
    rw (cut, step_back number u below s, undo_back u s (All-head HasIds u us ids), behind) refl

-- the whole text
joined : (a b c d : List ℕ) → ((a ++ b) ++ c) ++ d ≡ a ++ (b ++ (c ++ d))
joined a b c d = simp append_assoc

-- what stands behind the line of the state
rest_back : (id : Id) (s : TaskState) (us : List Undo) (v : VerbName) → MayHave s us → All IsStep us → All HasIds us
    → task_in id (Some (s, lines (step_lines 0 us ++ last v))) ≡ Some (record { id = id; verb = v; state = s; steps = us })
rest_back id state.Open us v few steps ids =
    let fits : 0 + length us ≤ 16 = omega (arith, few) in
    rw (body_back 0 us v fits steps ids) refl
rest_back id state.Done us v none steps ids = rw (none, last_back 16 v) refl
rest_back id state.Undone us v none steps ids = rw (none, last_back 16 v) refl

pub reads_back : (t : Task) → IsValid t → task_of t.id (text_of t) ≡ Some t
unfolding task_of text_of
reads_back t valid =
    let cut : lines (text_of t) ≡ whole (state_pair t.state) ∷ lines (step_lines 0 t.steps ++ last t.verb) =
    ap lines (joined (line (codes "STATE") (state_text t.state)) (step_lines 0 t.steps) (line (codes "VERB") (verb_text t.verb)) (codes "EOF\n")) ∙ lines-line (state_pair t.state) (step_lines 0 t.steps ++ last t.verb) (state_writable t.state) in
    rw (cut, keyed_back (state_pair t.state) (state_writable t.state), state_back t.state) (rest_back t.id t.state t.steps t.verb valid.task.steps valid.task.values valid.ids)
