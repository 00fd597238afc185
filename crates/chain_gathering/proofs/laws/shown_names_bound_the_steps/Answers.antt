use Rattle.chain_gathering.specs.Names.{price}
use Rattle.chain_gathering.proofs.Costs.{cost_by_all, cost_by_shown, meets_paid}
use Rattle.chain_gathering.proofs.laws.shown_names_bound_the_steps.Goals as goal

pub returns-clause-paid : goal.returns-clause-paid
returns-clause-paid c g turn cost d is rises shown = meets_paid g turn cost d is rises shown

pub returns-clause-counted : goal.returns-clause-counted
returns-clause-counted c dir d names all before n shows above = cost_by_shown price names before n (all n shows) above

pub returns-clause-all : goal.returns-clause-all
returns-clause-all c priced names = cost_by_all priced names
