use Rattle.std.proofs.Common.{arith}
use Rattle.script_lines.specs.Reply.{task_word}
use Rattle.script_lines.proofs.ReplyLemmas.{pushed_more}
use Rattle.script_lines.proofs.reply.push_tasks.Goals as goal

pub loop-task-preserved : goal.loop-task-preserved
loop-task-preserved c = record {
  pushed = pushed_more task_word c.args.tasks.now c.loop-task.task-index _ c.args.text.now.items c.loop-task.text.items
      c.push_task.new.text.items (omega (arith, c.loop-task-test.true)) c.loop-task.invariant.pushed c.push_task.ensures.items;
  len = omega (arith, c.loop-task.invariant.len, c.push_task.ensures.len);
  capacity = omega (arith, c.loop-task.invariant.capacity, c.push_task.ensures.capacity);
}
