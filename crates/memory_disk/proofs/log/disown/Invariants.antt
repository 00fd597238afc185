use Rattle.std.proofs.Common.{◌≡◌, ℕ, ◌&&◌, if◌then◌else◌, None, is_some, take}
use Rattle.shared_disk.specs.Content.{own_of}
use Rattle.memory_disk.specs.Leaving.{is_leaving}
use Rattle.memory_disk.specs.Sectors.{sector_at, kept_room}
use Rattle.memory_disk.specs.Store.{loose_of}
use Rattle.memory_disk.proofs.log.disown.Given as goal

abbrev pub invariant-loop-write : goal.invariant-loop-write
invariant-loop-write l = record {
  at : (h n k : ℕ) → sector_at l.own h n k ≡ (if is_leaving l.leaving (h, n, k) && is_some (own_of h k (loose_of n (take l.write-index l.log))) then None else sector_at l.initial.own h n k);
  room : kept_room l.own ≡ kept_room l.initial.own;
}
