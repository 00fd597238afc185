use Rattle.chain_model.proofs.Chains.{below_one, no_ring, one_below}
use Rattle.chain_model.proofs.chain.one_chain.Goals as goal

pub returns-clause-one : goal.returns-clause-one
returns-clause-one c = one_below

pub returns-clause-rest : goal.returns-clause-rest
returns-clause-rest c = below_one

pub returns-clause-ringless : goal.returns-clause-ringless
returns-clause-ringless c = no_ring
