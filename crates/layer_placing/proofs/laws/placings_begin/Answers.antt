use Rattle.std.proofs.Common.{◌+◌, ◌*◌, ap, sym, subst, ◌∙◌}
use Rattle.layer_placing.specs.Knows.{KnowsIn}
use Rattle.layer_placing.specs.Stages.{stage_left}
use Rattle.layer_placing.proofs.laws.placings_begin.Goals as goal

pub returns-clause-knows : goal.returns-clause-knows
returns-clause-knows c p count host l f begun knows = subst (λ s. KnowsIn l host f s) (sym begun.1) knows

pub returns-clause-steps : goal.returns-clause-steps
returns-clause-steps c p count pieces begun = ap (stage_left pieces) begun.1 ∙ ap (λ n. 1 + n * (7 + pieces)) begun.2
