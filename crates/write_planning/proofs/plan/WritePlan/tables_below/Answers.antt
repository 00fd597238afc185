use Rattle.std.proofs.Common.{sym, ◌∙◌, arith}
use Rattle.write_planning.specs.Plan.{lacks_table}
use Rattle.write_planning.proofs.Counts.{none_counted, none_yet, one_counted}
use Rattle.write_planning.proofs.plan.WritePlan.tables_below.Goals as goal
use Rattle.write_planning.proofs.plan.WritePlan.tables_below.Goals.{then-lacks_table, else-lacks_table}

pub loop-index-init : goal.loop-index-init
loop-index-init c = (none_yet (lacks_table c.args.self.now), omega arith)

pub loop-index-preserved : goal.loop-index-preserved
loop-index-preserved c = elim c.if-lacks_table.branch [
  | then-lacks_table w ↦ (one_counted (lacks_table c.args.self.now) c.loop-index.index c.loop-index.count _ (sym c.lacks_table.ensures ∙ w.if-lacks_table.true) c.loop-index.invariant.0 w.count-is, omega (arith, w.count-is, c.loop-index.invariant.1))
  | else-lacks_table w ↦ (none_counted (lacks_table c.args.self.now) c.loop-index.index c.loop-index.count _ (sym c.lacks_table.ensures ∙ w.if-lacks_table.false) c.loop-index.invariant.0 w.count-is, omega (arith, w.count-is, c.loop-index.invariant.1))
]
