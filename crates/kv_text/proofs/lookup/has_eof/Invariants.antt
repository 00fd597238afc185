use Rattle.std.proofs.Common.{◌≡◌, length}
use Rattle.kv_text.specs.Text.{has_eof}
use Rattle.kv_text.proofs.lookup.has_eof.Given as goal

abbrev pub invariant-loop : goal.invariant-loop
invariant-loop l = l.lines.closed ≡ has_eof l.text

abbrev pub decreases-loop : goal.decreases-loop
decreases-loop l = length l.lines.items
