use Rattle.chain_model.proofs.Chains.{passed_has_parent, passed_inside}
use Rattle.chain_model.proofs.Texts.{passed_if, passed_only}
use Rattle.chain_model.proofs.chain.merged_volumes_are_passed.Goals as goal

pub returns-clause-passed : goal.returns-clause-passed
returns-clause-passed c = passed_if

pub returns-clause-only : goal.returns-clause-only
returns-clause-only c = passed_only

pub returns-clause-inside : goal.returns-clause-inside
returns-clause-inside c = passed_inside

pub returns-clause-parent : goal.returns-clause-parent
returns-clause-parent c = λ r v. passed_has_parent (r v)
