use Rattle.std.specs.Prelude.{◌≡◌, length}
use Rattle.chain_write.proofs.parts.read_part.Given as goal

abbrev pub invariant-loop : goal.invariant-loop
invariant-loop g l = (l.chain ≡ l.fn.chain) × (length l.part ≡ length l.fn.part)
