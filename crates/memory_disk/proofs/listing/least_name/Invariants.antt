use Rattle.std.proofs.Common.{take}
use Rattle.memory_disk.specs.Listing.{IsLeastName}
use Rattle.memory_disk.proofs.listing.least_name.Given as goal

abbrev pub invariant-loop-slot : goal.invariant-loop-slot
invariant-loop-slot l = IsLeastName (take l.slot-index l.slots) l.dir l.after l.least
