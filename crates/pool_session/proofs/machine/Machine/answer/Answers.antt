use Rattle.std.proofs.Common.{refl, take}
use Rattle.script_lines.specs.Event.{event_by}
use Rattle.script_lines.specs.declared.reply.Reply.TheVariants.{Refused}
use Rattle.pool_session.specs.Answer.{Answer, answer_in}
use Rattle.pool_session.specs.Machine.{state_after}
use Rattle.pool_session.specs.Request.{asked_of}
use Rattle.pool_session.proofs.MachineLemmas.{state_at, due_fits, answers_due, answers_refused, asked_pool}
use Rattle.pool_session.proofs.machine.Machine.answer.Goals as goal

pub returns-in-Ok-clause-new : goal.returns-in-Ok-clause-new
returns-in-Ok-clause-new g c sd asked done =
    c.run.ensures.new sd (asked_pool c.args.self.now.stage (asked_of (event_by c.args.line.now)) sd c.in-Ok.act c.in-Ok.bytes.now asked c.in-Ok.ensures.due) done

pub returns-in-Ok-clause-content : goal.returns-in-Ok-clause-content
returns-in-Ok-clause-content g c d flat refusals tells stands =
    let asked = asked_of (event_by c.args.line.now) in
    let due = c.in-Ok.ensures.due in
    let ran = c.run.ensures.content d flat refusals tells (due_fits c.args.self.now.stage asked c.in-Ok.act c.in-Ok.bytes.now due flat d stands) in
    let s = state_at c.args.self.now.stage flat (g.D.SharedDisk.faults c.args.disk.now) refusals in
    let answer = answer_in c.run.result c.run.new.room in (
      ran.0,
      ran.1,
      ran.2,
      ran.3,
      answers_due s (state_after s c.run.new.self.stage ran.1 (g.D.SharedDisk.faults c.run.new.disk) answer) asked c.in-Ok.act c.in-Ok.bytes.now answer due ran.4,
    )

pub returns-in-Err-clause-content : goal.returns-in-Err-clause-content
returns-in-Err-clause-content g c d flat refusals tells stands =
    let s = state_at c.args.self.now.stage flat (g.D.SharedDisk.faults c.args.disk.now) refusals in
    let answer : Answer = (Refused c.in-Err.refusal, take 0 c.args.room.now) in (
      d,
      flat,
      tells,
      stands,
      answers_refused s (state_after s c.args.self.now.stage flat (g.D.SharedDisk.faults c.args.disk.now) answer) (asked_of (event_by c.args.line.now)) c.in-Err.refusal answer c.in-Err.ensures.due (refl, refl, refl),
    )

pub returns-in-Ok-clause-any : goal.returns-in-Ok-clause-any
returns-in-Ok-clause-any g c = rw c.in-Ok.ensures.due c.run.ensures.any

pub returns-in-Err-clause-any : goal.returns-in-Err-clause-any
returns-in-Err-clause-any g c = rw c.in-Err.ensures.due ((refl, refl), refl)
