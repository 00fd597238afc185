use Rattle.std.proofs.Common.{◌++◌, take, ap, ◌∙◌, List, ℕ, Some}
use Rattle.script_loop.proofs.RunLemmas.{gave_more, rest_splits}
use Rattle.script_loop.proofs.give.give.Goals as goal

pub loop-rest-preserved : goal.loop-rest-preserved
loop-rest-preserved g c =
    let inv = c.loop-rest.invariant in
    let rest = c.loop-rest.rest.now in
    let count = c.in-Ok.count in
    let given = g.K.Sink.given in (
      c.in-Ok.ensures.counts.cause ∙ inv.0,
      (
        inv.1.0 ++ take count rest,
        rest_splits c.args.text.now inv.1.0 rest count inv.1.1,
        gave_more (given c.args.sink.now) (given c.loop-rest.sink) (given c.write.new.self) inv.1.0 (take count rest) inv.1.2
            (λ before tells. let took = c.in-Ok.ensures.taken before tells in took.1 ∙ ap (λ (xs : List ℕ). Some xs) took.2),
      ),
    )
