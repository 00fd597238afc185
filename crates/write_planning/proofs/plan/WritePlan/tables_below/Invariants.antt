use Rattle.std.proofs.Common.{◌≡◌, ◌≤◌}
use Rattle.write_planning.specs.Plan.{tables_below}
use Rattle.write_planning.proofs.plan.WritePlan.tables_below.Given as goal

abbrev pub invariant-loop-index : goal.invariant-loop-index
invariant-loop-index l = (l.count ≡ tables_below l.self l.index) × (l.count ≤ l.index)
