use Rattle.std.proofs.Common.{◌≡◌, refl, sym, subst}
use Rattle.script_lines.specs.Event.{event_by, event_of}
use Rattle.script_lines.specs.Said.{Event}
use Rattle.script_loop.specs.declared.runner.LineOutcome.TheVariants.{Silent}
use Rattle.pool_session.specs.Request.{is_built}
use Rattle.pool_session.specs.Run.{FindsNone, IsOutcome}
use Rattle.pool_session.specs.RunsAt.{RunsAt, state_at}
use Rattle.pool_session.proofs.LineLemmas.{silent_runs, silent_outcome}
use Rattle.pool_session.specs.AnyDisk.{RunsOn}
use Rattle.pool_session.proofs.session.run_line.Goals as goal

pub returns-then-is_silent-clause-outcome : goal.returns-then-is_silent-clause-outcome
returns-then-is_silent-clause-outcome g c =
    let event = event_by c.event_of-line.result in
    let is : event ≡ event_of is_built c.args.text.now = c.event_of-line.ensures is_built (λ verb answer post. post.1) in
    subst (λ (e : Event). IsOutcome e Silent) is (silent_outcome event c.if-is_silent.ensures)

pub returns-then-is_silent-clause-ran : goal.returns-then-is_silent-clause-ran
returns-then-is_silent-clause-ran g c =
    let content = g.D.SharedDisk.content c.args.disk.now in
    let faults = g.D.SharedDisk.faults c.args.disk.now in
    let stage = c.args.machine.now.stage in
    let event = event_by c.event_of-line.result in
    let is : event ≡ event_of is_built c.args.text.now = c.event_of-line.ensures is_built (λ verb answer post. post.1) in
    subst (λ (e : Event). RunsAt stage stage content content faults faults c.args.number e Silent c.args.reply.now.items) is
    (λ flat refusals reached. (flat, refusals, reached, silent_runs c.args.number (state_at stage flat faults refusals) event c.args.reply.now.items c.if-is_silent.ensures))

pub returns-clause-outcome : goal.returns-clause-outcome
returns-clause-outcome g c =
    let is : event_by c.event_of-line.result ≡ event_of is_built c.args.text.now = c.event_of-line.ensures is_built (λ verb answer post. post.1) in
    subst (λ (e : Event). IsOutcome e c.answer.result) is c.answer.ensures.outcome

pub returns-clause-new : goal.returns-clause-new
returns-clause-new g c =
    let is : event_by c.event_of-line.result ≡ event_of is_built c.args.text.now = c.event_of-line.ensures is_built (λ verb answer post. post.1) in
    subst (λ (e : Event). FindsNone e c.answer.result (g.D.SharedDisk.content c.args.disk.now)) is c.answer.ensures.new

pub returns-clause-ran : goal.returns-clause-ran
returns-clause-ran g c =
    let content = g.D.SharedDisk.content in
    let faults = g.D.SharedDisk.faults in
    let is : event_by c.event_of-line.result ≡ event_of is_built c.args.text.now = c.event_of-line.ensures is_built (λ verb answer post. post.1) in
    subst (λ (e : Event). RunsAt c.args.machine.now.stage c.answer.new.machine.stage (content c.args.disk.now) (content c.answer.new.disk) (faults c.args.disk.now) (faults c.answer.new.disk) c.args.number e c.answer.result c.answer.new.reply.items)
    is c.answer.ensures.answered

pub returns-then-is_silent-clause-any : goal.returns-then-is_silent-clause-any
returns-then-is_silent-clause-any g c =
    let stage = c.args.machine.now.stage in
    let disk = c.args.disk.now in
    let event = event_by c.event_of-line.result in
    let is : event ≡ event_of is_built c.args.text.now = c.event_of-line.ensures is_built (λ verb answer post. post.1) in
    subst (λ (e : Event). RunsOn g.D.SharedDisk.content stage disk c.args.number e Silent c.args.reply.now.items stage disk) is (rw (sym c.if-is_silent.ensures) (refl, refl))

pub returns-clause-any : goal.returns-clause-any
returns-clause-any g c =
    let is : event_by c.event_of-line.result ≡ event_of is_built c.args.text.now = c.event_of-line.ensures is_built (λ verb answer post. post.1) in
    subst (λ (e : Event). RunsOn g.D.SharedDisk.content c.args.machine.now.stage c.args.disk.now c.args.number e c.answer.result c.answer.new.reply.items c.answer.new.machine.stage c.answer.new.disk)
    is c.answer.ensures.any
