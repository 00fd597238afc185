use Rattle.std.proofs.Common.{arith}
use Rattle.script_lines.specs.Reply.{answer_word}
use Rattle.script_lines.proofs.ReplyLemmas.{pushed_more}
use Rattle.script_lines.proofs.reply.push_answers.Goals as goal

pub loop-answer-preserved : goal.loop-answer-preserved
loop-answer-preserved c = record {
  pushed = pushed_more answer_word c.args.answers.now c.loop-answer.answer-index _ c.args.text.now.items c.loop-answer.text.items
      c.push_answer.new.text.items (omega (arith, c.loop-answer-test.true)) c.loop-answer.invariant.pushed c.push_answer.ensures.items;
  len = omega (arith, c.loop-answer.invariant.len, c.push_answer.ensures.len);
  capacity = omega (arith, c.loop-answer.invariant.capacity, c.push_answer.ensures.capacity);
}
