use Rattle.std.proofs.Common.{Some, refl}
use Rattle.memory_disk.specs.Held.{held}
use Rattle.memory_disk.proofs.Contents.{is_empty}
use Rattle.memory_disk.proofs.memory.InMemory+ListedCalls.new.Goals as goal

pub returns-in-Ok : goal.returns-in-Ok
returns-in-Ok c = record {
  empty = (held c.in-Ok.store, refl, is_empty _ _ c.in-Ok.store.stable c.in-Ok.store.log.items c.in-Ok.ensures.dirs c.in-Ok.ensures.files);
  room = c.in-Ok.ensures.room;
  picks = c.new-turns.ensures;
  calls = refl;
  faults = refl;
  failing = refl;
  limits = λ i. Some (record { units = c.in-Ok.ensures.units i; room = c.in-Ok.ensures.room i; failing = c.args.failing.items });
}
