use Rattle.sector_freeing.proofs.Least.{slot_fits}
use Rattle.sector_freeing.proofs.stages.behind_read.Goals as goal

pub at-requires-clause-slot : goal.at-requires-clause-slot
at-requires-clause-slot c = slot_fits c.args.from c.args.found (c.in-Some.slot, c.in-Some.lease) c.requires.within.low c.in-Some.is c.requires.fits
