use Rattle.std.proofs.Common.{◌≡◌, ◌++◌, map, take, drop}
use Rattle.std.specs.Option.{option_map}
use Rattle.memory_disk.specs.Files.{entry_moved}
use Rattle.memory_disk.proofs.files.move_all.Given as goal

abbrev pub invariant-loop-i : goal.invariant-loop-i
invariant-loop-i l = l.slots ≡ map (option_map (entry_moved l.from l.to)) (take l.i l.initial.slots) ++ drop l.i l.initial.slots
