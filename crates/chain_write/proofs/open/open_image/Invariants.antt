use Rattle.volume_chain.specs.Knowing.{StageShaped}
use Rattle.chain_write.proofs.open.open_image.Given as goal

abbrev pub invariant-loop : goal.invariant-loop
invariant-loop g l = StageShaped l.work.stage
