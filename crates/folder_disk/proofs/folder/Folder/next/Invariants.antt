use Rattle.folder_layout.specs.Listing.{IsAbove}
use Rattle.folder_disk.proofs.folder.Folder.next.Given as goal

abbrev pub invariant-loop : goal.invariant-loop
invariant-loop g l = (x : g.row.E.Denot) → IsAbove g.E.Entry.order l.after x → IsAbove g.E.Entry.order l.initial.after x
