use Rattle.std.proofs.Common.{◌≡◌, length}
use Rattle.kv_text.specs.Left.{left_of}
use Rattle.kv_text.proofs.lines.LinesIterator.next.Given as goal

abbrev pub invariant-loop-self : goal.invariant-loop-self
invariant-loop-self l =
    left_of l.self-inside.rest.now l.self-inside.number l.self-inside.ended ≡ l.fn.self

abbrev pub decreases-loop-self : goal.decreases-loop-self
decreases-loop-self l = length l.self-inside.rest.now
