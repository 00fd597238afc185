use Rattle.std.proofs.Common.{◌+◌, ◌≤◌, length, take}
use Rattle.memory_disk.specs.Sectors.{kept_count, kept_room}
use Rattle.memory_disk.specs.Settled.{IsSettling}
use Rattle.memory_disk.specs.Turns.{AreTaken, to_come}
use Rattle.memory_disk.specs.Store.{not_by}
use Rattle.memory_disk.proofs.store.down.settle_writes.Given as goal

abbrev pub invariant-loop-i : goal.invariant-loop-i
invariant-loop-i l = record {
  at : IsSettling l.host l.files.slots.items l.log l.initial.stable l.stable;
  count : kept_count l.stable + length (not_by l.host (take l.i l.log)) ≤ kept_count l.initial.stable + l.i;
  room : kept_room l.initial.stable ≤ kept_room l.stable;
  picks : AreTaken (to_come l.initial.picks) (to_come l.picks);
}
