use Rattle.std.proofs.Common.{◌≡◌, ◌-◌, length}
use Rattle.qcow_format.specs.Extension.{extensions_at, end_after}
use Rattle.qcow_format.specs.Format.{last_format}
use Rattle.qcow_format.proofs.Formats.{with_earlier}
use Rattle.qcow_format.proofs.format.walk.Given as goal

-- what has been found, with what follows, is what there is from the start on
abbrev pub invariant-loop-met : goal.invariant-loop-met
invariant-loop-met l = record {
  ends : end_after l.at (extensions_at l.head l.at) ≡ end_after l.start (extensions_at l.head l.start);
  finds : with_earlier l.found (last_format l.head (extensions_at l.head l.at)) ≡ last_format l.head (extensions_at l.head l.start);
}

abbrev pub decreases-loop-met : goal.decreases-loop-met
decreases-loop-met l = length l.head - l.at
