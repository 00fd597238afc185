use Rattle.chain_settling.specs.Fit.{IsFit, chain_in}
use Rattle.chain_write.specs.Open.{AreAllOpen}
use Rattle.chain_write.proofs.open.settle.Given as goal

abbrev pub invariant-loop : goal.invariant-loop
invariant-loop g l = IsFit l.work.stage × AreAllOpen (chain_in l.work.stage)
