use Rattle.std.proofs.Common.{arith}
use Rattle.layer_walk.proofs.Words.{take_here, take_other}
use Rattle.layer_walk.proofs.bits.Bits.remove.Goals as goal

pub returns-clause-here : goal.returns-clause-here
returns-clause-here c = take_here c.args.self.now.words.items c.args.n c.index_mut.result.now (omega (arith, c.requires, c.args.self.now.words.ok.0))

pub returns-clause-others : goal.returns-clause-others
returns-clause-others c k apart =
    take_other c.args.self.now.words.items c.args.n c.index_mut.result.now k (omega (arith, c.requires, c.args.self.now.words.ok.0)) c.index_mut.ensures.value apart
