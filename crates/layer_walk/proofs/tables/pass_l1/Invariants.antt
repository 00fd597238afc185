use Rattle.std.proofs.Common.{◌≤◌, Ok, None}
use Rattle.layer_walk.specs.Positions.{PassesRow}
use Rattle.layer_walk.proofs.tables.pass_l1.Given as goal

abbrev pub invariant-loop-k : goal.invariant-loop-k
invariant-loop-k l = (l.fn.i ≤ l.k) × PassesRow l.fn.header l.fn.i l.k l.fn.sector l.fn.marks l.marks (Ok None)
