use Rattle.std.proofs.Common.{◌≡◌, count_by, is_some, take}
use Rattle.memory_disk.proofs.files.free_number.Given as goal

abbrev pub invariant-loop-i : goal.invariant-loop-i
invariant-loop-i l = count_by is_some (take l.i l.slots) ≡ l.i
