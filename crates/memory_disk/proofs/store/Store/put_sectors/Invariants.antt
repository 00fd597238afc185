use Rattle.std.proofs.Common.{◌≡◌, ◌≢◌, ◌+◌, ◌<◌, ◌≤◌, ℕ, Some}
use Rattle.shared_disk.specs.Content.{sector_of}
use Rattle.memory_disk.specs.Held.{units}
use Rattle.memory_disk.specs.Sectors.{sector_at}
use Rattle.memory_disk.proofs.store.Store.put_sectors.Given as goal

abbrev pub invariant-loop-k : goal.invariant-loop-k
invariant-loop-k l = record {
  dirs : l.self.dirs ≡ l.initial.self.dirs;
  files : l.self.files ≡ l.initial.self.files;
  log : l.self.log ≡ l.initial.self.log;
  room : l.self.room ≡ l.initial.self.room;
  units : units l.self ≤ units l.initial.self + l.k;
  here : (j : ℕ) → j < l.k → sector_at l.self.stable 0 l.number j ≡ Some (sector_of l.bytes j);
  others : (n j : ℕ) → n ≢ l.number → sector_at l.self.stable 0 n j ≡ sector_at l.initial.self.stable 0 n j;
}
