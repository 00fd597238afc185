use Rattle.std.proofs.Common.{sym, ◌∙◌, arith}
use Rattle.write_planning.specs.Plan.{lacks_place}
use Rattle.write_planning.proofs.Counts.{none_counted, none_yet, one_counted}
use Rattle.write_planning.proofs.plan.WritePlan.places_below.Goals as goal
use Rattle.write_planning.proofs.plan.WritePlan.places_below.Goals.{then-lacks_place, else-lacks_place}

pub loop-index-init : goal.loop-index-init
loop-index-init c = (none_yet (lacks_place c.args.self.now), omega arith)

pub loop-index-preserved : goal.loop-index-preserved
loop-index-preserved c = elim c.if-lacks_place.branch [
  | then-lacks_place w ↦ (one_counted (lacks_place c.args.self.now) c.loop-index.index c.loop-index.count _ (sym c.lacks_place.ensures ∙ w.if-lacks_place.true) c.loop-index.invariant.0 w.count-is, omega (arith, w.count-is, c.loop-index.invariant.1))
  | else-lacks_place w ↦ (none_counted (lacks_place c.args.self.now) c.loop-index.index c.loop-index.count _ (sym c.lacks_place.ensures ∙ w.if-lacks_place.false) c.loop-index.invariant.0 w.count-is, omega (arith, w.count-is, c.loop-index.invariant.1))
]
