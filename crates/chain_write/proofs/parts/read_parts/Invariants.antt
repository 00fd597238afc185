use Rattle.std.specs.Prelude.{◌≡◌, length}
use Rattle.shared_disk.specs.Calls.{IsAligned}
use Rattle.chain_write.proofs.parts.read_parts.Given as goal

abbrev pub invariant-loop : goal.invariant-loop
invariant-loop g l = (l.chain ≡ l.fn.chain) × IsAligned l.at × (length l.bytes ≡ 65536)
