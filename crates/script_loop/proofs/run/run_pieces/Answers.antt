use Rattle.std.proofs.Common.{◌≡◌, ◌≤◌, ◌++◌, ℕ, List, [], ◌∷◌, take, drop, length, refl, ◌∙◌, subst, arith, length-append}
use Rattle.script_loop.specs.Stream.{Took}
use Rattle.script_loop.specs.declared.status.Status.TheVariants.{ReadFault, TooLong, WriteFault}
use Rattle.script_loop.proofs.EndLemmas.{took_still, took_piece, took_as, spent_since, extra_size, one_of, ends_told, finish_ends}
use Rattle.script_loop.proofs.RunLemmas.{starts, ends_cut}
use Rattle.script_loop.proofs.run.run_pieces.Goals as goal

pub loop-session-init : goal.loop-session-init
loop-session-init g c = (
  omega (arith, c.requires.taken),
  omega (arith, c.requires.taken, c.requires.answered),
  omega (arith, c.requires.counted.lines),
  c.requires.room,
  refl,
  refl,
  (
    [],
    [],
    omega (arith, c.requires.answered),
    omega (arith, c.requires.taken),
    λ before tells. (before, tells, refl),
    starts g.L.LineRunner.says g.L.LineRunner.reply_of c.args.runner.now c.args.disk.now (g.K.Sink.given c.args.sink.now) c.args.session.now.line c.args.session.now.tally c.requires.empty c.requires.counted,
  ),
)

pub returns-in-Err-clause-ends : goal.returns-in-Err-clause-ends
returns-in-Err-clause-ends g c =
    let inv = c.loop-session.invariant in
    let came = inv.6 in
    let left = g.S.Source.left in
    let given = g.K.Sink.given in
    let says = g.L.LineRunner.says in
    let reply_of = g.L.LineRunner.reply_of in
    let none : length came.1 ≡ 0 = omega (arith, inv.1, came.2, came.3, c.loop-session-test.true) in
    ends_told says reply_of c.args.runner.now c.loop-session.runner c.args.disk.now c.loop-session.disk ReadFault c.told.result.status c.loop-session.session.tally.refused c.told.result.refused
    (left c.args.source.now) (left c.read.new.source) (given c.args.sink.now) (given c.loop-session.sink) c.told.ensures.status c.told.ensures.refused (record {
      taken = came.0;
      took = took_still (left c.args.source.now) (left c.loop-session.source) (left c.read.new.source) came.0 came.1 none came.4 c.in-Err.ensures.took;
      bound = omega (arith, came.2, inv.1);
      ran = ends_cut says reply_of c.args.runner.now c.loop-session.runner c.args.disk.now c.loop-session.disk came.0 (given c.args.sink.now) (given c.loop-session.sink) c.loop-session.session.line c.loop-session.session.tally came.5;
    })

pub returns-then-count-eq0-clause-ends : goal.returns-then-count-eq0-clause-ends
returns-then-count-eq0-clause-ends g c =
    let inv = c.loop-session.invariant in
    let came = inv.6 in
    let left = g.S.Source.left in
    let given = g.K.Sink.given in
    let says = g.L.LineRunner.says in
    let reply_of = g.L.LineRunner.reply_of in
    let none : length came.1 ≡ 0 = omega (arith, inv.1, came.2, came.3, c.loop-session-test.true) in
    let zero : c.in-Ok.count ≡ 0 = omega (arith, c.if-count-eq0.true) in
    let still = took_as (left c.loop-session.source) (left c.read.new.source) (take c.in-Ok.count c.read.new.piece) [] (rw zero refl) c.in-Ok.ensures.took in
    finish_ends says reply_of c.args.runner.now c.end_script.new.runner c.args.disk.now c.end_script.new.disk came.0 (left c.args.source.now) (left c.read.new.source) (given c.args.sink.now) (given c.end_script.new.sink)
    (took_still (left c.args.source.now) (left c.loop-session.source) (left c.read.new.source) came.0 came.1 none came.4 still)
    (omega (arith, came.2, inv.1))
    (spent_since (left c.args.source.now) (left c.loop-session.source) (left c.read.new.source) (came.0 ++ came.1) came.4 (c.in-Ok.ensures.end zero))
    c.end_script.result.refused c.end_script.result.status c.end_script.ensures.others.0 c.end_script.ensures.others.1 c.end_script.ensures.others.2
    (c.end_script.ensures.finished c.args.runner.now c.args.disk.now came.0 (given c.args.sink.now) came.5)

pub loop-session-preserved : goal.loop-session-preserved
loop-session-preserved g c =
    let inv = c.loop-session.invariant in
    let came = inv.6 in
    let left = g.S.Source.left in
    let given = g.K.Sink.given in
    let piece = c.read.new.piece in
    let count = c.in-Ok.count in
    let kept = c.min-kept.result in
    let front = c.front.result.now in
    let few : kept ≤ count = omega (arith, c.min-kept.ensures) in
    let fits : count ≤ length piece = omega (arith, c.in-Ok.ensures.bound, c.in-Ok.ensures.room) in
    let none : length came.1 ≡ 0 = omega (arith, inv.1, came.2, came.3, c.loop-session-test.true) in (
      omega (arith, c.in-Ok-feed.ensures.taken, c.in-Ok.ensures.most),
      omega (arith, c.in-Ok-feed.ensures.taken, c.in-Ok-feed.ensures.answered, c.in-Ok.ensures.most, c.front.ensures.length, c.min-kept.ensures, inv.1, c.loop-session-test.true),
      omega (arith, c.in-Ok-feed.ensures.number, c.in-Ok-feed.ensures.answered, inv.2),
      c.in-Ok.ensures.room ∙ inv.3,
      c.in-Ok.ensures.faults ∙ inv.4,
      c.in-Ok-feed.ensures.faults ∙ inv.5,
      (
        came.0 ++ front,
        drop kept (take count piece),
        omega (arith, length-append came.0 front, came.2, c.in-Ok-feed.ensures.answered),
        omega (arith, length-append came.0 front, came.2, came.3, none, c.front.ensures.length, extra_size piece count kept few fits, c.in-Ok-feed.ensures.taken),
        took_piece (left c.args.source.now) (left c.loop-session.source) (left c.read.new.source) came.0 came.1 piece front count kept none came.4 c.in-Ok.ensures.took few fits c.front.ensures.front,
        c.in-Ok-feed.ensures.fed c.args.runner.now c.args.disk.now came.0 (given c.args.sink.now) came.5,
      ),
    )

pub returns-in-Err-feed-clause-ends : goal.returns-in-Err-feed-clause-ends
returns-in-Err-feed-clause-ends g c =
    let inv = c.loop-session.invariant in
    let came = inv.6 in
    let left = g.S.Source.left in
    let given = g.K.Sink.given in
    let piece = c.read.new.piece in
    let count = c.in-Ok.count in
    let kept = c.min-kept.result in
    let front = c.front.result.now in
    let few : kept ≤ count = omega (arith, c.min-kept.ensures) in
    let fits : count ≤ length piece = omega (arith, c.in-Ok.ensures.bound, c.in-Ok.ensures.room) in
    let none : length came.1 ≡ 0 = omega (arith, inv.1, came.2, came.3, c.loop-session-test.true) in
    let broken = c.in-Err-feed.ensures.fed c.args.runner.now c.args.disk.now came.0 (given c.args.sink.now) came.5 in
    ends_told g.L.LineRunner.says g.L.LineRunner.reply_of c.args.runner.now c.feed.new.runner c.args.disk.now c.feed.new.disk WriteFault c.told-in-Err-feed.result.status c.feed.new.self.tally.refused c.told-in-Err-feed.result.refused
    (left c.args.source.now) (left c.read.new.source) (given c.args.sink.now) (given c.feed.new.sink) c.told-in-Err-feed.ensures.status c.told-in-Err-feed.ensures.refused (record {
      taken = came.0 ++ front;
      more = drop kept (take count piece);
      rest = 10 ∷ broken.0;
      took = took_piece (left c.args.source.now) (left c.loop-session.source) (left c.read.new.source) came.0 came.1 piece front count kept none came.4 c.in-Ok.ensures.took few fits c.front.ensures.front;
      bound = omega (arith, length-append came.0 front, c.front.ensures.length, c.min-kept.ensures, came.2, inv.1, c.loop-session-test.true);
      few = omega (arith, length-append came.0 front, c.front.ensures.length, extra_size piece count kept few fits, came.2, inv.1, c.in-Ok.ensures.most, c.loop-session-test.true);
      ran = broken.1;
      last = λ e. absurd cc;
    })

pub returns-clause-ends : goal.returns-clause-ends
returns-clause-ends g c =
    let inv = c.loop-session.invariant in
    let came = inv.6 in
    let left = g.S.Source.left in
    let given = g.K.Sink.given in
    let says = g.L.LineRunner.says in
    let reply_of = g.L.LineRunner.reply_of in
    let one = one_of came.1 (omega (arith, inv.0, inv.1, came.2, came.3, c.loop-session-test.false)) in
    ends_told says reply_of c.args.runner.now c.loop-session.runner c.args.disk.now c.loop-session.disk TooLong c.told-2.result.status c.loop-session.session.tally.refused c.told-2.result.refused
    (left c.args.source.now) (left c.loop-session.source) (given c.args.sink.now) (given c.loop-session.sink) c.told-2.ensures.status c.told-2.ensures.refused (record {
      taken = came.0;
      byte = one.0;
      took = subst (λ (xs : List ℕ). Took (left c.args.source.now) (left c.loop-session.source) (came.0 ++ xs)) one.1 came.4;
      bound = omega (arith, came.2, inv.1, c.loop-session-test.false);
      ran = ends_cut says reply_of c.args.runner.now c.loop-session.runner c.args.disk.now c.loop-session.disk came.0 (given c.args.sink.now) (given c.loop-session.sink) c.loop-session.session.line c.loop-session.session.tally came.5;
    })
