use Rattle.std.proofs.Common.{◌≡◌, ◌+◌, ◌*◌, ◌≤◌, ◌++◌, length, take, map, vec_capacity}
use Rattle.script_lines.specs.Reply.{spaced, answer_word}
use Rattle.script_lines.proofs.reply.push_answers.Given as goal

abbrev pub invariant-loop-answer : goal.invariant-loop-answer
invariant-loop-answer l = record {
  pushed : l.text.items ≡ l.fn.text.items ++ spaced (map answer_word (take l.answer-index l.answers));
  len : length l.text.items ≤ length l.fn.text.items + 26 * l.answer-index;
  capacity : vec_capacity l.fn.text ≤ vec_capacity l.text;
}
