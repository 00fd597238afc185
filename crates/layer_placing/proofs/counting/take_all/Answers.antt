use Rattle.std.proofs.Common.{◌≡◌, subst, arith}
use Rattle.layer_placing.specs.Stages.{TakesUpTo}
use Rattle.layer_placing.proofs.counting.take_all.Goals as goal

pub returns : goal.returns
returns c =
    let end : c.loop-i.i ≡ c.args.upto = omega (arith, c.loop-i-test.false, c.requires.ahead) in
    subst (λ n. TakesUpTo c.args.layer.now c.args.work.now n c.loop-i.layer) end c.loop-i.invariant
