use Rattle.std.proofs.Common.{◌≡◌, ◌≢◌, ℕ, ◌<◌, ◌≤◌, None}
use Rattle.memory_disk.specs.Sectors.{kept_count, kept_room, sector_at}
use Rattle.memory_disk.proofs.sector_map.Sectors.take_first.Given as goal

abbrev pub invariant-loop-k : goal.invariant-loop-k
invariant-loop-k l = record {
  gone : (j : ℕ) → j < l.k → sector_at l.self 0 l.file j ≡ None;
  rest : (j : ℕ) → sector_at l.initial.self 0 l.file j ≡ None → sector_at l.self 0 l.file j ≡ None;
  others : (n j : ℕ) → n ≢ l.file → sector_at l.self 0 n j ≡ sector_at l.initial.self 0 n j;
  count : kept_count l.self ≤ kept_count l.initial.self;
  room : kept_room l.self ≡ kept_room l.initial.self;
}
