use Rattle.std.proofs.Common.{None}
use Rattle.layer_walk.specs.Positions.{PassesHead}
use Rattle.layer_walk.proofs.head.check_head.Given as goal

abbrev pub invariant-loop-n : goal.invariant-loop-n
invariant-loop-n l = PassesHead l.fn.header l.n l.fn.marks l.marks None
