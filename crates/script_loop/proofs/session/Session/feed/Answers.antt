use Rattle.std.proofs.Common.{List, ℕ, length, ◌++◌, [], ◌∷◌, refl, sym, ap, ◌∙◌, subst, arith, append_assoc, length-append}
use Rattle.std.proofs.lemmas.List.{append-nil}
use Rattle.script_loop.specs.Ends.{IsBroken}
use Rattle.script_loop.specs.Progress.{Progress}
use Rattle.script_loop.proofs.RunLemmas.{line_of_piece, rest_of_piece, goes_on, line_ends, breaks}
use Rattle.script_loop.proofs.session.Session.feed.Goals as goal

pub loop-first-init : goal.loop-first-init
loop-first-init g c = (
  omega arith,
  refl,
  refl,
  refl,
  (
    [],
    refl,
    λ m d bytes given came. subst (λ (xs : List ℕ). Progress g.L.LineRunner.says g.L.LineRunner.reply_of m d xs given (g.K.Sink.given c.args.sink.now) c.args.self.now.line c.args.self.now.tally c.args.runner.now c.args.disk.now)
        (sym (append-nil bytes)) came,
  ),
)

pub loop-first-preserved : goal.loop-first-preserved
loop-first-preserved g c =
    let split = c.in-Some.ensures.line in
    let inv = c.loop-first.invariant in
    let front = inv.4.0 in
    let rest = c.loop-first.rest.now in
    let first = c.in-Some.first.now in
    let next = c.in-Some.next.now in
    let says = g.L.LineRunner.says in
    let reply_of = g.L.LineRunner.reply_of in
    let given_by = g.K.Sink.given in (
      omega (arith, c.in-Ok.ensures.number, ap length split.0, length-append first (10 ∷ next), inv.0),
      c.in-Ok.ensures.taken ∙ inv.1,
      c.in-Ok.ensures.answered ∙ inv.2,
      c.in-Ok.ensures.faults ∙ inv.3,
      (
        front ++ (first ++ 10 ∷ []),
        line_of_piece c.args.piece.now front rest first next inv.4.1 split.0,
        λ m d bytes given came.
            let at = inv.4.2 m d bytes given came in
            let ran = c.in-Ok.ensures.ran (at.last ++ first) (c.push.ensures at.last at.holds) in
            subst (λ (xs : List ℕ). Progress says reply_of m d xs given (given_by c.end_line.new.sink) c.end_line.new.self.line c.end_line.new.self.tally c.end_line.new.runner c.end_line.new.disk)
            (append_assoc bytes front (first ++ 10 ∷ []))
            (line_ends says reply_of m c.loop-first.runner d c.loop-first.disk (bytes ++ front) given (given_by c.loop-first.sink) c.loop-first.self.line c.loop-first.self.tally at
            first ran.1 ran.0 c.end_line.new.runner c.end_line.new.disk (given_by c.end_line.new.sink) c.end_line.new.self.tally split.1 ran.2 ran.3
            c.end_line.new.self.line ran.4 c.in-Ok.ensures.cleared),
      ),
    )

pub returns-in-Err-clause-fed : goal.returns-in-Err-clause-fed
returns-in-Err-clause-fed g c m d bytes given came =
    let split = c.in-Some.ensures.line in
    let inv = c.loop-first.invariant in
    let front = inv.4.0 in
    let first = c.in-Some.first.now in
    let next = c.in-Some.next.now in
    let says = g.L.LineRunner.says in
    let reply_of = g.L.LineRunner.reply_of in
    let given_by = g.K.Sink.given in
    let at = inv.4.2 m d bytes given came in
    let ran = c.in-Err.ensures.ran (at.last ++ first) (c.push.ensures at.last at.holds) in (
      next,
      subst (λ (xs : List ℕ). IsBroken says reply_of m d (10 ∷ next) xs given (given_by c.end_line.new.sink) c.end_line.new.self.tally.refused c.end_line.new.runner c.end_line.new.disk)
          (rest_of_piece bytes c.args.piece.now front (first ++ 10 ∷ next) (inv.4.1 ∙ ap (λ (xs : List ℕ). front ++ xs) split.0))
          (breaks says reply_of m c.loop-first.runner d c.loop-first.disk (bytes ++ front) given (given_by c.loop-first.sink) c.loop-first.self.line c.loop-first.self.tally at
          first ran.1 ran.0 c.end_line.new.runner c.end_line.new.disk (given_by c.end_line.new.sink) c.end_line.new.self.tally split.1 ran.2 ran.3
          (10 ∷ next) refl ran.4),
    )

pub returns-clause-fed : goal.returns-clause-fed
returns-clause-fed g c m d bytes given came =
    let inv = c.loop-first.invariant in
    let front = inv.4.0 in
    let rest = c.loop-first.rest.now in
    let says = g.L.LineRunner.says in
    let reply_of = g.L.LineRunner.reply_of in
    let given_by = g.K.Sink.given in
    let at = inv.4.2 m d bytes given came in
    subst (λ (xs : List ℕ). Progress says reply_of m d xs given (given_by c.loop-first.sink) c.push-2.new.self c.loop-first.self.tally c.loop-first.runner c.loop-first.disk)
    (rest_of_piece bytes c.args.piece.now front rest inv.4.1)
    (goes_on says reply_of m c.loop-first.runner d c.loop-first.disk (bytes ++ front) given (given_by c.loop-first.sink) c.loop-first.self.line c.loop-first.self.tally at
    rest c.push-2.new.self (rw c.in_default.is at c.split_line.ensures.line) (c.push-2.ensures at.last at.holds))
