use Rattle.std.proofs.Common.{◌≡◌, ◌+◌, ◌*◌, ◌<◌, ℕ, drop, unwrap_or}
use Rattle.shared_disk.specs.Content.{own_of, sector_of, zero_sector}
use Rattle.memory_disk.specs.Sectors.{sector_at}
use Rattle.memory_disk.specs.Store.{loose_of}
use Rattle.memory_disk.proofs.store.Store.read_at.Given as goal

abbrev pub invariant-loop-i : goal.invariant-loop-i
invariant-loop-i l = record {
  sectors : (k : ℕ) → k < l.i → sector_of l.into k ≡ unwrap_or (own_of l.host (l.first + k) (loose_of l.number l.self.log.items)) (unwrap_or (sector_at l.self.stable 0 l.number (l.first + k)) zero_sector);
  rest : drop (512 * l.i) l.into ≡ drop (512 * l.i) l.initial.into;
}
