use Rattle.std.proofs.Common.{◌≡◌, ◌++◌, map, take, drop}
use Rattle.memory_disk.specs.Listing.{dir_moved}
use Rattle.memory_disk.proofs.listing.move_one.Given as goal

abbrev pub invariant-loop-i : goal.invariant-loop-i
invariant-loop-i l = l.dirs ≡ map (dir_moved l.from l.to) (take l.i l.initial.dirs) ++ drop l.i l.initial.dirs
