use Rattle.layer_walk.specs.Counting.{PassesRow}
use Rattle.layer_walk.proofs.counting.scan.Given as goal

abbrev pub invariant-loop-k : goal.invariant-loop-k
invariant-loop-k l = PassesRow l.header l.entry l.k l.row l.fn.marks l.marks
