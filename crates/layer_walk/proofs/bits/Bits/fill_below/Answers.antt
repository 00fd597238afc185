use Rattle.std.proofs.Common.{arith}
use Rattle.layer_walk.proofs.Words.{in_ones}
use Rattle.layer_walk.proofs.bits.Bits.fill_below.Goals as goal

pub returns-clause-below : goal.returns-clause-below
returns-clause-below c n lt within =
    in_ones c.loop-k.self.words.items n (c.loop-k.invariant.below _ (omega (arith, lt, within, c.requires, c.len.ensures, c.min-count.ensures, c.loop-k-test.false, c.args.self.now.words.ok.0)))
