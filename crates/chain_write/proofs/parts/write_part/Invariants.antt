use Rattle.std.specs.Prelude.{◌≡◌, length}
use Rattle.guest_writing.specs.Guest.{IsOnWay}
use Rattle.chain_write.specs.Open.{AreAllOpen}
use Rattle.chain_write.proofs.parts.write_part.Given as goal

abbrev pub invariant-loop : goal.invariant-loop
invariant-loop g l = IsOnWay l.work l.chain (length l.part) × AreAllOpen l.chain × (length l.room ≡ 65536)
