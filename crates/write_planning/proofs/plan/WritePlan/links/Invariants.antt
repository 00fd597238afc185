use Rattle.layer_placing.specs.Chosen.{listed}
use Rattle.write_planning.specs.Linked.{AreLinks, group_in, start_in}
use Rattle.write_planning.specs.Plan.{span_of}
use Rattle.write_planning.proofs.plan.WritePlan.links.Given as goal

abbrev pub invariant-loop-index : goal.invariant-loop-index
invariant-loop-index l = AreLinks l.self (listed l.placed) (group_in (span_of l.self) l.sector) (start_in (span_of l.self) l.sector) l.index l.links
