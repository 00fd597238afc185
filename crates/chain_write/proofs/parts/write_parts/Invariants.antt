use Rattle.std.specs.Prelude.{◌≡◌, length}
use Rattle.shared_disk.specs.Calls.{IsAligned}
use Rattle.chain_write.specs.Open.{AreAllOpen}
use Rattle.chain_write.proofs.parts.write_parts.Given as goal

abbrev pub invariant-loop : goal.invariant-loop
invariant-loop g l = AreAllOpen l.chain × IsAligned l.at × (length l.room ≡ 65536)
