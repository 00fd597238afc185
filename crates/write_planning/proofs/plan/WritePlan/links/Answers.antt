use Rattle.std.proofs.Common.{◌≡◌, ◌≢◌, ℕ, ◌+◌, ◌/◌, ◌≤◌, ◌<◌, Option, Some, sym, ap, ◌∙◌, subst, arith}
use Rattle.layer_linking.specs.declared.links.Links.{Links}
use Rattle.layer_placing.specs.Chosen.{listed}
use Rattle.write_planning.specs.Linked.{AreLinks, end_in, group_in, links_to, start_in}
use Rattle.write_planning.specs.Plan.{span_of}
use Rattle.write_planning.specs.Span.{first_of}
use Rattle.write_planning.proofs.Adding.{added, passed}
use Rattle.write_planning.proofs.Sectors.{in_sector, starts_before}
use Rattle.write_planning.proofs.plan.WritePlan.links.Goals as goal
use Rattle.write_planning.proofs.plan.WritePlan.links.Goals.{in-Some, in_default}

pub loop-index-preserved : goal.loop-index-preserved
loop-index-preserved c = elim c.match-place.branch [
  | in-Some w ↦
      let at : w.first.result + c.loop-index.index ≡ first_of (span_of c.args.self.now) + c.loop-index.index = ap (λ n. n + c.loop-index.index) w.first.ensures in
      let low : start_in (span_of c.args.self.now) c.args.sector ≤ c.loop-index.index = omega (arith, c.start_in-index.ensures.value, c.loop-index.auto.index) in
      let high : c.loop-index.index < end_in (span_of c.args.self.now) c.args.sector = omega (arith, c.end_in-index-end.ensures, c.loop-index-test.true) in
      subst (λ (l : Option Links). AreLinks c.args.self.now (listed c.args.placed.now) (group_in (span_of c.args.self.now) c.args.sector) (start_in (span_of c.args.self.now) c.args.sector) (c.loop-index.index + 1) l)
      (sym w.links-is)
      (added c.args.self.now (listed c.args.placed.now) (group_in (span_of c.args.self.now) c.args.sector) (start_in (span_of c.args.self.now) c.args.sector) c.loop-index.index w.in-Some.place c.loop-index.links (Some w.joined.result)
      c.loop-index.invariant low (sym w.in-Some.is ∙ c.place.ensures)
      (w.joined.ensures.group ∙ ap (λ n. n / 64) at ∙ in_sector (span_of c.args.self.now) c.args.sector c.loop-index.index low high)
      (subst (λ n. links_to (Some w.joined.result) n ≡ Some w.in-Some.place) at w.joined.ensures.here)
      (subst (λ n. (k : ℕ) → k ≢ n → links_to (Some w.joined.result) k ≡ links_to c.loop-index.links k) at w.joined.ensures.others))
  | in_default w ↦
      subst (λ (l : Option Links). AreLinks c.args.self.now (listed c.args.placed.now) (group_in (span_of c.args.self.now) c.args.sector) (start_in (span_of c.args.self.now) c.args.sector) (c.loop-index.index + 1) l)
      (sym w.links-is)
      (passed c.args.self.now (listed c.args.placed.now) (group_in (span_of c.args.self.now) c.args.sector) (start_in (span_of c.args.self.now) c.args.sector) c.loop-index.index c.loop-index.links
      c.loop-index.invariant (sym w.in_default.is ∙ c.place.ensures))
]

pub returns : goal.returns
returns c =
    let before = starts_before (span_of c.args.self.now) c.args.sector c.start_in-index.result c.end_in-index-end.result c.start_in-index.ensures.value c.end_in-index-end.ensures c.start_in-index.ensures.within in
    let last : c.loop-index.index ≡ c.end_in-index-end.result = omega (arith, before, c.loop-index.auto.index-end, c.loop-index-test.false) in
    subst (λ n. AreLinks c.args.self.now (listed c.args.placed.now) (group_in (span_of c.args.self.now) c.args.sector) (start_in (span_of c.args.self.now) c.args.sector) n c.loop-index.links)
    (last ∙ c.end_in-index-end.ensures) c.loop-index.invariant
