use Rattle.std.proofs.Common.{◌≡◌, drop}
use Rattle.memory_disk.specs.Store.{found}
use Rattle.memory_disk.proofs.files.find.Given as goal

abbrev pub invariant-loop-i : goal.invariant-loop-i
invariant-loop-i l = found l.place 0 l.slots ≡ found l.place l.i (drop l.i l.slots)
