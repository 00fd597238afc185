use Rattle.std.proofs.Common.{◌≡◌, ◌+◌, ◌≤◌, ℕ, ◌==◌, if◌then◌else◌, length, take}
use Rattle.shared_disk.specs.Content.{own_of}
use Rattle.memory_disk.specs.Sectors.{sector_at, kept_count, kept_room}
use Rattle.memory_disk.specs.Store.{loose_of, others_of, or_else}
use Rattle.memory_disk.proofs.log.settle.Given as goal

abbrev pub invariant-loop-write : goal.invariant-loop-write
invariant-loop-write l = record {
  at : (n k : ℕ) → sector_at l.stable 0 n k ≡ (if l.number == n then or_else (own_of l.host k (loose_of l.number (take l.write-index l.log))) (sector_at l.initial.stable 0 n k) else sector_at l.initial.stable 0 n k);
  count : kept_count l.stable + length (others_of l.host l.number (take l.write-index l.log)) ≤ kept_count l.initial.stable + l.write-index;
  room : kept_room l.initial.stable ≤ kept_room l.stable;
}
