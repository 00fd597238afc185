use Rattle.std.proofs.Common.{ap, ◌∙◌, arith}
use Rattle.write_planning.specs.Plan.{tables_below}
use Rattle.write_planning.proofs.Tables.{tables_few, tables_on_sectors}
use Rattle.write_planning.proofs.plan.WritePlan.wanted.Goals as goal

pub returns-clause-few : goal.returns-clause-few
returns-clause-few c =
    let at = c.tables_below.ensures.value ∙ ap (tables_below c.args.self.now) c.count-count.ensures.value in
    let two = tables_few c.args.self.now in
    omega (arith, at, two, c.places_below.ensures.few, c.count-count.ensures.few)

pub returns-clause-met : goal.returns-clause-met
returns-clause-met c =
    let at = c.tables_below.ensures.value ∙ ap (tables_below c.args.self.now) c.count-count.ensures.value in
    let each = tables_on_sectors c.args.self.now in
    omega (arith, at, each, c.places_below.ensures.few, c.count-count.ensures.value)
