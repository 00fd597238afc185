-- The text of a reply.
use Rattle.std.specs.Prelude.{ℕ, ◌≤◌, ◌++◌, Bool, true, false, List, [], ◌∷◌, length, map, codes, decimal}
use Rattle.sd_names.specs.Id.{id_text}
use Rattle.sd_names.specs.Refusal.{refusal_text}
use Rattle.sd_names.specs.declared.id.Id.{Id}
use Rattle.sd_names.specs.declared.task_state.TaskState.{TaskState}
use Rattle.sd_names.specs.declared.task_state.TaskState.TheVariants as state
use Rattle.sd_names.specs.declared.verb.Payload.{Payload}
use Rattle.sd_names.specs.declared.verb.Payload.TheVariants.{MakePool, SpmStart, SpmStop, AddDomain, Create, Snapshot, DeleteVolume, DeleteImage, Copy, Extend, Describe, Open, Close, Read, Write, PrepareMerge, Merge, FinalizeMerge, LiveStart, LiveFill, LiveSync, LivePivot, BoxPost, BoxServe, BoxCollect, Tasks, ClearTask, Recover}
use Rattle.script_lines.specs.Printed.{printed}
use Rattle.script_lines.specs.declared.reply.Reply.{Reply}
use Rattle.script_lines.specs.declared.reply.Reply.TheVariants as reply

-- words, each behind a space
abbrev pub spaced : List (List ℕ) → List ℕ
spaced [] = []
spaced (word ∷ words) = 32 ∷ (word ++ spaced words)

-- whether an answer from the mailbox was done
abbrev pub done_text : Bool → List ℕ
done_text true = codes ":done"
done_text false = codes ":fail"

-- an answer from the mailbox: its mark, and whether it was done
abbrev pub answer_word : ℕ × Bool → List ℕ
answer_word answer = decimal answer.0 ++ done_text answer.1

-- what has become of a task
abbrev pub state_text : TaskState → List ℕ
state_text state.Open = codes ":open"
state_text state.Done = codes ":done"
state_text state.Undone = codes ":undone"

-- a task, and what has become of it
abbrev pub task_word : Id × TaskState → List ℕ
task_word task = id_text task.0.0 ++ state_text task.1

-- the words that a verb's reply carries behind `ok`; the bytes are those that were read
abbrev pub payload_words : Payload → List ℕ → List (List ℕ)
payload_words MakePool bytes = []
payload_words (SpmStart lver) bytes = decimal lver ∷ []
payload_words SpmStop bytes = []
payload_words AddDomain bytes = []
payload_words Create bytes = []
payload_words Snapshot bytes = []
payload_words DeleteVolume bytes = []
payload_words DeleteImage bytes = []
payload_words Copy bytes = []
payload_words Extend bytes = []
payload_words Describe bytes = []
payload_words (Open reading capacity) bytes = id_text reading.0 ∷ decimal capacity ∷ []
payload_words Close bytes = []
payload_words (Read count) bytes = printed bytes ∷ []
payload_words Write bytes = []
payload_words PrepareMerge bytes = []
payload_words (Merge generation) bytes = decimal generation ∷ []
payload_words FinalizeMerge bytes = []
payload_words (LiveStart front end) bytes = decimal front ∷ decimal end ∷ []
payload_words (LiveFill front end) bytes = decimal front ∷ decimal end ∷ []
payload_words (LiveSync generation) bytes = decimal generation ∷ []
payload_words LivePivot bytes = []
payload_words (BoxPost slot) bytes = decimal slot ∷ []
payload_words (BoxServe done fail) bytes = decimal done ∷ decimal fail ∷ []
payload_words (BoxCollect answers) bytes = map answer_word answers
payload_words (Tasks tasks) bytes = decimal (length tasks) ∷ map task_word tasks
payload_words ClearTask bytes = []
payload_words (Recover count) bytes = decimal count ∷ []

-- the words of a reply, behind the line's number
abbrev pub outcome_words : Reply → List ℕ → List (List ℕ)
outcome_words reply.Plain bytes = codes "ok" ∷ []
outcome_words (reply.Done payload) bytes = codes "ok" ∷ payload_words payload bytes
outcome_words reply.Begun bytes = codes "begun" ∷ []
outcome_words reply.More bytes = codes "more" ∷ []
outcome_words (reply.Refused refusal) bytes = codes "refused" ∷ refusal_text refusal ∷ []

-- the reply to the line of a number, with its line end; the bytes are those that were read
abbrev pub reply_text : ℕ → Reply → List ℕ → List ℕ
reply_text line answer bytes = decimal line ++ spaced (outcome_words answer bytes) ++ 10 ∷ []

-- a payload has no more answers and tasks than a pool may have
abbrev pub IsBoundedPayload : Payload → Type 0
IsBoundedPayload (Tasks tasks) = length tasks ≤ 128
IsBoundedPayload _ = Unit {0}

abbrev pub IsBounded : Reply → Type 0
IsBounded (reply.Done payload) = IsBoundedPayload payload
IsBounded _ = Unit {0}
