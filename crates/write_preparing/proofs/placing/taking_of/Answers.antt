use Rattle.std.proofs.Common.{refl, ◌∙◌, ◌+◌, ◌≤◌, subst}
use Rattle.write_planning.specs.Linked.{sectors_of}
use Rattle.write_planning.specs.Plan.{span_of}
use Rattle.write_planning.specs.Span.{count_of}
use Rattle.write_preparing.proofs.placing.taking_of.Goals as goal

pub returns-then-wanted-gt0 : goal.returns-then-wanted-gt0
returns-then-wanted-gt0 c =
    let begun = c.begin-work.ensures in
    (refl, subst (λ n. n ≤ count_of (span_of c.args.plan) + sectors_of (span_of c.args.plan)) c.wanted-wanted.ensures.value c.wanted-wanted.ensures.met, (begun.0, begun.1, begun.2 ∙ c.wanted-wanted.ensures.value))
