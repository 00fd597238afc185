use Rattle.chain_model.proofs.Chains.{up_counts}
use Rattle.chain_model.proofs.Counting.{one_counts, some_counts}
use Rattle.chain_model.proofs.chain.first_that_counts.Goals as goal

pub returns-clause-first : goal.returns-clause-first
returns-clause-first c = up_counts

pub returns-clause-some : goal.returns-clause-some
returns-clause-some c = some_counts

pub returns-clause-one : goal.returns-clause-one
returns-clause-one c = one_counts
