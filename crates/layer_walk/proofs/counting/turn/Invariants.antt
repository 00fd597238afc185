use Rattle.layer_walk.specs.Counting.{PassesRest}
use Rattle.layer_walk.proofs.counting.turn.Given as goal

abbrev pub invariant-loop-k : goal.invariant-loop-k
invariant-loop-k l = PassesRest l.header l.entry l.k l.fn.marks l.marks
