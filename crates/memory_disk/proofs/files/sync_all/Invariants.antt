use Rattle.std.proofs.Common.{◌≡◌, ◌++◌, map, take, drop}
use Rattle.std.specs.Option.{option_map}
use Rattle.memory_disk.specs.Files.{entry_synced}
use Rattle.memory_disk.proofs.files.sync_all.Given as goal

abbrev pub invariant-loop-i : goal.invariant-loop-i
invariant-loop-i l = l.slots ≡ map (option_map (entry_synced l.host)) (take l.i l.initial.slots) ++ drop l.i l.initial.slots
