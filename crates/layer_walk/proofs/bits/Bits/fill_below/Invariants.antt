use Rattle.layer_walk.proofs.Words.{IsFilled}
use Rattle.layer_walk.proofs.bits.Bits.fill_below.Given as goal

abbrev pub invariant-loop-k : goal.invariant-loop-k
invariant-loop-k l = IsFilled l.initial.self.words.items l.self.words.items l.k
