use Rattle.std.proofs.Common.{◌≡◌, ◌+◌, ◌*◌, ◌≤◌, ◌++◌, length, take, map, vec_capacity}
use Rattle.script_lines.specs.Reply.{spaced, task_word}
use Rattle.script_lines.proofs.reply.push_tasks.Given as goal

abbrev pub invariant-loop-task : goal.invariant-loop-task
invariant-loop-task l = record {
  pushed : l.text.items ≡ l.fn.text.items ++ spaced (map task_word (take l.task-index l.tasks));
  len : length l.text.items ≤ length l.fn.text.items + 44 * l.task-index;
  capacity : vec_capacity l.fn.text ≤ vec_capacity l.text;
}
