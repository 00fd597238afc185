use Rattle.std.proofs.Common.{◌≡◌, ◌+◌, ℕ, true, ◌==◌, ◌++◌, if◌then◌else◌, length}
use Rattle.shared_disk.specs.Content.{writes}
use Rattle.memory_disk.specs.Store.{loose_of}
use Rattle.memory_disk.proofs.store.Store.write_at.Given as goal

abbrev pub invariant-loop-i : goal.invariant-loop-i
invariant-loop-i l = record {
  dirs : l.self.dirs ≡ l.initial.self.dirs;
  files : l.self.files ≡ l.initial.self.files;
  stable : l.self.stable ≡ l.initial.self.stable;
  room : l.self.room ≡ l.initial.self.room;
  logged : length l.self.log.items ≡ length l.initial.self.log.items + l.i;
  loose : (m : ℕ) → loose_of m l.self.log.items ≡ (if l.number == m then writes (λ _. true) l.host l.first l.bytes l.i ++ loose_of m l.initial.self.log.items else loose_of m l.initial.self.log.items);
}
