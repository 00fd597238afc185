use Rattle.layer_placing.specs.Stages.{RaisesTo}
use Rattle.layer_placing.proofs.counting.raised.Given as goal

abbrev pub invariant-loop-i : goal.invariant-loop-i
invariant-loop-i l = RaisesTo l.work l.fn.sector l.counts l.i
