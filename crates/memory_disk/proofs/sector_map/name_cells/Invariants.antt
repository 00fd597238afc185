use Rattle.std.proofs.Common.{◌≡◌, ℕ, ◌+◌, ◌<◌, ◌≤◌, Some}
use Rattle.std.specs.HashMap.{get, hash_map_len, spare}
use Rattle.memory_disk.specs.Cells.{cell_at, key_eq}
use Rattle.memory_disk.proofs.sector_map.name_cells.Given as goal

abbrev pub invariant-loop-i : goal.invariant-loop-i
invariant-loop-i l = record {
  indexed : (j : ℕ) → j < l.i → get key_eq l.index (cell_at l.cells j).key ≡ Some j;
  len : hash_map_len l.index ≤ l.i;
  room : spare l.initial.index ≤ hash_map_len l.index + spare l.index;
}
