use Rattle.layer_walk.specs.Counting.{TakesCounts}
use Rattle.layer_walk.proofs.counted.count_clusters.Given as goal

abbrev pub invariant-loop-j : goal.invariant-loop-j
invariant-loop-j l = TakesCounts l.fn.first l.j l.fn.sector l.fn.marks l.marks
