use Rattle.std.proofs.Common.{◌≢◌, List, ℕ, ◌++◌, [], sym, subst}
use Rattle.std.proofs.lemmas.List.{append-nil}
use Rattle.std.proofs.lemmas.List.Elements.{All-nil}
use Rattle.script_loop.specs.Ends.{IsBroken}
use Rattle.script_loop.specs.Line.{Holds}
use Rattle.script_loop.proofs.RunLemmas.{ends_here, last_ends, breaks}
use Rattle.script_loop.proofs.session.Session.finish.Goals as goal

pub returns-then-is_empty-clause-finished : goal.returns-then-is_empty-clause-finished
returns-then-is_empty-clause-finished g c m d bytes given came =
    ends_here g.L.LineRunner.says g.L.LineRunner.reply_of m c.args.runner.now d c.args.disk.now bytes given (g.K.Sink.given c.args.sink.now) c.args.self.now.line c.args.self.now.tally came
    (rw c.if-is_empty.true at (c.is_empty.ensures came.last came.holds))

pub returns-in-Ok-clause-finished : goal.returns-in-Ok-clause-finished
returns-in-Ok-clause-finished g c m d bytes given came =
    let ran = c.in-Ok.ensures.ran came.last came.holds in
    last_ends g.L.LineRunner.says g.L.LineRunner.reply_of m c.args.runner.now d c.args.disk.now bytes given (g.K.Sink.given c.args.sink.now) c.args.self.now.line c.args.self.now.tally came
    ran.1 ran.0 c.end_line.new.runner c.end_line.new.disk (g.K.Sink.given c.end_line.new.sink) c.end_line.new.self.tally
    (rw c.if-is_empty.false at (c.is_empty.ensures came.last came.holds)) ran.2 ran.3 ran.4

pub returns-in-Err-clause-finished : goal.returns-in-Err-clause-finished
returns-in-Err-clause-finished g c m d bytes given came =
    let says = g.L.LineRunner.says in
    let reply_of = g.L.LineRunner.reply_of in
    let given_by = g.K.Sink.given in
    let holds : Holds c.args.self.now.line (came.last ++ []) = subst (λ (xs : List ℕ). Holds c.args.self.now.line xs) (sym (append-nil came.last)) came.holds in
    let ran = c.in-Err.ensures.ran (came.last ++ []) holds in
    subst (λ (xs : List ℕ). IsBroken says reply_of m d [] xs given (given_by c.end_line.new.sink) c.end_line.new.self.tally.refused c.end_line.new.runner c.end_line.new.disk)
    (append-nil bytes)
    (breaks says reply_of m c.args.runner.now d c.args.disk.now bytes given (given_by c.args.sink.now) c.args.self.now.line c.args.self.now.tally came
    [] ran.1 ran.0 c.end_line.new.runner c.end_line.new.disk (given_by c.end_line.new.sink) c.end_line.new.self.tally (All-nil (λ byte. byte ≢ 10)) ran.2 ran.3
    [] tt ran.4)
