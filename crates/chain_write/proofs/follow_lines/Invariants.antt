use Rattle.std.specs.Prelude.{IfSome}
use Rattle.chain_write.specs.Open.{AreAllOpen}
use Rattle.chain_write.proofs.follow_lines.Given as goal

abbrev pub invariant-loop-line : goal.invariant-loop-line
invariant-loop-line l = IfSome l.opened AreAllOpen
