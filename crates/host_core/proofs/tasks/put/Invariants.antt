use Rattle.std.proofs.Common.{◌≡◌, ◌++◌, take}
use Rattle.host_core.specs.Listed.{part_of}
use Rattle.host_core.proofs.tasks.put.Given as goal

abbrev pub invariant-loop-pair : goal.invariant-loop-pair
invariant-loop-pair l = l.all ≡ l.fn.all ++ part_of l.part (take l.pair-index l.tasks)
