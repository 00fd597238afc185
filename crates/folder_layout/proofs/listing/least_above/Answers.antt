use Rattle.folder_layout.proofs.ListingLemmas.{answers_above}
use Rattle.folder_layout.proofs.listing.least_above.Goals as goal

pub loop-preserved : goal.loop-preserved
loop-preserved g c =
    answers_above g.E.Entry.order (g.E.Entry.stands c.args.dir.now) c.args.after.now _ c.loop.least c.least_in_piece-least.result c.least_in_piece-least.ensures.from c.loop.invariant
