use Rattle.std.proofs.Common.{None}
use Rattle.layer_walk.specs.Counting.{IsFound}
use Rattle.layer_walk.proofs.counted.uncounted.Given as goal

abbrev pub invariant-loop-j : goal.invariant-loop-j
invariant-loop-j l = IsFound l.first l.j l.sector l.marks None
