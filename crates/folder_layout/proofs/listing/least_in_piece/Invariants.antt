use Rattle.folder_layout.proofs.ListingLemmas.{Seen}
use Rattle.folder_layout.proofs.listing.least_in_piece.Given as goal

abbrev pub invariant-loop-end : goal.invariant-loop-end
invariant-loop-end g l = Seen g.E.Entry.order (g.E.Entry.stands l.dir) l.after l.piece l.initial.least l.least l.start l.end
