use Rattle.std.proofs.Common.{◌≡◌, ◌≢◌, ℕ, ◌+◌, ◌<◌, ◌≤◌}
use Rattle.memory_disk.specs.Cells.{cell_at}
use Rattle.memory_disk.specs.Sectors.{kept_count, kept_room, sector_at}
use Rattle.memory_disk.proofs.sector_map.Sectors.take_all.Given as goal

abbrev pub invariant-loop-i : goal.invariant-loop-i
invariant-loop-i l = record {
  low : kept_count l.initial.self ≤ kept_count l.self + l.i;
  count : kept_count l.self ≤ kept_count l.initial.self;
  seen : (j : ℕ) → kept_count l.initial.self ≤ j + l.i → j < kept_count l.self → (cell_at l.self.cells.items j).key.1 ≢ l.file;
  others : (n j : ℕ) → n ≢ l.file → sector_at l.self 0 n j ≡ sector_at l.initial.self 0 n j;
  room : kept_room l.self ≡ kept_room l.initial.self;
}
