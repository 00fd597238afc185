use Rattle.std.proofs.Common.{◌∙◌, ap, sym, arith}
use Rattle.write_planning.specs.Linked.{table_with}
use Rattle.write_planning.specs.declared.plan.WritePlan.{WritePlan}
use Rattle.write_planning.proofs.Tables.{table_counted}
use Rattle.write_linking.proofs.sectors.table_place.Goals as goal

pub get-cluster-requires : goal.get-cluster-requires
get-cluster-requires c =
    let few = table_counted c.args.placed.now.plan c.args.sector c.in-Some.index c.requires (sym (ap (λ (p : WritePlan). table_with p c.args.sector) c.plan.ensures) ∙ sym c.in-Some.ensures) in
    let many = c.clusters.ensures.many in
    omega (arith, few, many)
