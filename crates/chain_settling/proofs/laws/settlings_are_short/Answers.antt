use Rattle.std.proofs.Common.{ap, ◌∙◌}
use Rattle.chain_settling.specs.Left.{left_of}
use Rattle.chain_settling.specs.Settling.{stage_of, stage_turn}
use Rattle.chain_settling.specs.declared.stages.Stage.{Stage}
use Rattle.chain_settling.proofs.Costs.{begin_left, names_cost, stage_paid}
use Rattle.chain_settling.proofs.laws.settlings_are_short.Goals as goal

pub returns-clause-begun : goal.returns-clause-begun
returns-clause-begun c chain s cost begins = ap (λ (z : Stage). left_of cost z) begins.stage ∙ begin_left chain begins.tidying cost begins.begun

pub returns-clause-paid : goal.returns-clause-paid
returns-clause-paid c s turn d cost is rises shown = stage_paid (stage_of s) (stage_turn turn) d cost is rises shown

pub returns-clause-counted : goal.returns-clause-counted
returns-clause-counted c dir d names all = names_cost dir d names all
