use Rattle.chain_model.proofs.Refusals.{fault_number, one_fault}
use Rattle.chain_model.proofs.opening.one_first_refusal.Goals as goal

pub returns-clause-one : goal.returns-clause-one
returns-clause-one c = one_fault

pub returns-clause-number : goal.returns-clause-number
returns-clause-number c = fault_number
