use Rattle.std.proofs.Common.{◌≡◌}
use Rattle.memory_disk.specs.Settled.{IsSettling}
use Rattle.memory_disk.specs.Turns.{AreTaken, to_come}
use Rattle.memory_disk.proofs.store.Store.fill_file.Given as goal

abbrev pub invariant-loop-k : goal.invariant-loop-k
invariant-loop-k l = record {
  dirs : l.self.dirs ≡ l.initial.self.dirs;
  files : l.self.files ≡ l.initial.self.files;
  log : l.self.log ≡ l.initial.self.log;
  room : l.self.room ≡ l.initial.self.room;
  at : IsSettling l.host l.initial.self.files.slots.items l.initial.self.log.items l.initial.self.stable l.self.stable;
  picks : AreTaken (to_come l.initial.picks) (to_come l.picks);
}
