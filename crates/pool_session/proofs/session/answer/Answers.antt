use Rattle.std.proofs.Common.{◌||◌, sym}
use Rattle.script_lines.specs.Event.{event_by}
use Rattle.pool_session.specs.Answer.{answer_in, is_refusal}
use Rattle.pool_session.specs.Machine.{state_after}
use Rattle.pool_session.specs.RunsAt.{state_at}
use Rattle.pool_session.proofs.LineLemmas.{answer_runs}
use Rattle.pool_session.proofs.session.answer.Goals as goal

pub returns-clause-answered : goal.returns-clause-answered
returns-clause-answered g c flat refusals reached =
    let faults = g.D.SharedDisk.faults in
    let ran = c.answer-answer.ensures.content reached.disk flat refusals reached.tells reached.stands in
    let s = state_at c.args.machine.now.stage flat (faults c.args.disk.now) refusals in
    let answer = answer_in c.answer-answer.result c.answer-answer.new.room in
    let t = state_after s c.answer-answer.new.self.stage ran.1 (faults c.answer-answer.new.disk) answer in (
      ran.1,
      refusals || is_refusal answer.0,
      record { disk = ran.0; tells = ran.2; stands = ran.3 },
      answer_runs c.args.number s t (event_by c.args.line.now) c.push_reply.new.text.items c.outcome.result c.requires.loud (
        answer,
        ran.4,
        c.outcome.ensures,
        rw (c.requires.empty, c.read_count-count.ensures) at c.push_reply.ensures.items,
      ),
    )

pub returns-clause-any : goal.returns-clause-any
returns-clause-any g c = rw (sym c.requires.loud) (
  answer_in c.answer-answer.result c.answer-answer.new.room,
  c.answer-answer.ensures.any,
  c.outcome.ensures,
  rw (c.requires.empty, c.read_count-count.ensures) at c.push_reply.ensures.items,
)
