use Rattle.std.proofs.Common.{◌≡◌, ◌≤◌}
use Rattle.write_planning.specs.Plan.{places_below}
use Rattle.write_planning.proofs.plan.WritePlan.places_below.Given as goal

abbrev pub invariant-loop-index : goal.invariant-loop-index
invariant-loop-index l = (l.count ≡ places_below l.self l.index) × (l.count ≤ l.index)
