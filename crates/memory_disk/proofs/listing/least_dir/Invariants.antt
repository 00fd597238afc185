use Rattle.std.proofs.Common.{take}
use Rattle.memory_disk.specs.Listing.{IsLeastDir}
use Rattle.memory_disk.proofs.listing.least_dir.Given as goal

abbrev pub invariant-loop-made : goal.invariant-loop-made
invariant-loop-made l = IsLeastDir (take l.made-index l.dirs) l.dir l.after l.least
