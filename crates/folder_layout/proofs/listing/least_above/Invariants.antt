use Rattle.folder_layout.specs.Listing.{AnswersAbove}
use Rattle.folder_layout.proofs.listing.least_above.Given as goal

abbrev pub invariant-loop : goal.invariant-loop
invariant-loop g l = AnswersAbove g.E.Entry.order l.after l.least
