use Rattle.cluster_filling.specs.Laying.{IsLaid}
use Rattle.cluster_filling.proofs.laying.lay.Given as goal

abbrev pub invariant-loop-k : goal.invariant-loop-k
invariant-loop-k l = IsLaid l.cluster l.first l.part l.k l.initial.piece l.piece
