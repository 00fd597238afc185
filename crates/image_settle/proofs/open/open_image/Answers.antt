use Rattle.image_settle.proofs.open.open_image.Goals as goal

pub settle-requires : goal.settle-requires
settle-requires g c = (c.in-Done.ensures.fit.1 c.loop.invariant).0.valid
