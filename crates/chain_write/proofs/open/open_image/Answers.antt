use Rattle.chain_write.proofs.open.open_image.Goals as goal

pub settle-requires-clause-valid : goal.settle-requires-clause-valid
settle-requires-clause-valid g c = (c.in-Done.ensures.fit.1 c.loop.invariant).0.valid
