use Rattle.std.proofs.Common.{◌≡◌, List, ℕ, inr, sym, ap, ◌∙◌, arith}
use Rattle.write_planning.specs.Linked.{place_at}
use Rattle.write_planning.specs.Plan.{span_of}
use Rattle.write_planning.specs.Span.{count_of}
use Rattle.write_planning.specs.declared.plan.WritePlan.{WritePlan}
use Rattle.write_planning.specs.declared.span.Span.{Span}
use Rattle.write_preparing.specs.Placed.{clusters_of}
use Rattle.write_filling.specs.Filling.{many_of}
use Rattle.write_filling.proofs.fillings.Fillings.next.Goals as goal

pub returns-in-Some : goal.returns-in-Some
returns-in-Some c =
    let many : many_of c.args.self ≡ c.count.result =
    ap (λ (q : WritePlan). count_of (span_of q)) (sym c.plan-plan.ensures) ∙ ap (λ (s : Span). count_of s) (sym c.span.ensures) ∙ sym c.count.ensures.value in (
      omega (arith, many, c.if-self-count.false),
      inr (record {
        place = c.in-Some.place;
        gets = ap (λ (q : WritePlan). place_at q (clusters_of c.args.self.placed) c.args.self.done) (sym c.plan-plan.ensures)
            ∙ ap (λ (xs : List ℕ). place_at c.plan-plan.result xs c.args.self.done) (sym c.clusters.ensures.clusters) ∙ sym c.place.ensures ∙ c.in-Some.is;
        new = c.new_cluster.result;
        is = c.new_cluster.ensures.new;
        work = c.begin-work.result;
        begun = c.begin-work.ensures;
        next_is = c.at_work.ensures;
      }),
    )
