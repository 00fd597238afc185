use Rattle.chain_settling.specs.Fit.{IsFit}
use Rattle.image_settle.proofs.open.settle.Given as goal

abbrev pub invariant-loop : goal.invariant-loop
invariant-loop g l = IsFit l.work.stage
