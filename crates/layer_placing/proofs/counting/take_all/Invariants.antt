use Rattle.layer_placing.specs.Stages.{TakesUpTo}
use Rattle.layer_placing.proofs.counting.take_all.Given as goal

abbrev pub invariant-loop-i : goal.invariant-loop-i
invariant-loop-i l = TakesUpTo l.fn.layer l.work l.i l.layer
