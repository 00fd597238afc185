use Rattle.std.proofs.Common.{◌≡◌, ◌+◌, ◌/◌, ◌%◌, ◌<◌, ℕ, drop, get_or, length, unwrap_or}
use Rattle.shared_disk.specs.Content.{zero_sector}
use Rattle.memory_disk.specs.Sectors.{sector_at}
use Rattle.memory_disk.proofs.store.Store.bytes.Given as goal

abbrev pub invariant-loop-i : goal.invariant-loop-i
invariant-loop-i l = record {
  len : length l.into ≡ length l.initial.into;
  told : (j : ℕ) → j < l.i → get_or l.into j 0 ≡ get_or (unwrap_or (sector_at l.self.stable 0 l.number ((l.at + j) / 512)) zero_sector) ((l.at + j) % 512) 0;
  rest : drop l.i l.into ≡ drop l.i l.initial.into;
}
