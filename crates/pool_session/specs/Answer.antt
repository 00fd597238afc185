-- What the machine answers: a reply, and the bytes that a read hands out.
use Rattle.std.specs.Prelude.{◌≡◌, ℕ, ◌%◌, ◌≤◌, Bool, true, false, List, length, take}
use Rattle.sd_names.specs.declared.verb.Payload.TheVariants.{Read}
use Rattle.script_lines.specs.Reply.{IsBounded}
use Rattle.script_lines.specs.declared.reply.Reply.{Reply}
use Rattle.script_lines.specs.declared.reply.Reply.TheVariants.{Done, Refused}
use Rattle.script_loop.specs.declared.runner.LineOutcome.{LineOutcome}
use Rattle.script_loop.specs.declared.runner.LineOutcome.TheVariants as outcome

-- a reply, and the bytes that it hands out
abbrev pub Answer : Type 0
Answer = Reply × List ℕ

-- whether it is a refusal
abbrev pub is_refusal : Reply → Bool
is_refusal (Refused refusal) = true
is_refusal _ = false

-- what a reply makes of its line
abbrev pub outcome_for : Reply → LineOutcome
outcome_for (Refused refusal) = outcome.Refused
outcome_for _ = outcome.Done

-- how many bytes a reply hands out
abbrev pub read_count : Reply → ℕ
read_count (Done (Read count)) = count
read_count _ = 0

-- the answer, with the bytes that were read at the front of the room
abbrev pub answer_in : Reply → List ℕ → Answer
answer_in said room = (said, take (read_count said) room)

-- a reply's text has bounds, and bytes that were read are whole sectors, 65,536 bytes at most, which stand in the room
pub record IsPrintable (said : Reply) (room : List ℕ) : Type 0 where
  pub bounded : IsBounded said
  pub whole : read_count said % 512 ≡ 0
  pub few : read_count said ≤ 65536
  pub within : read_count said ≤ length room
