use Rattle.chain_model.proofs.Chains.{one_reading, reading_covered}
use Rattle.chain_model.proofs.chain.one_reading_volume.Goals as goal

pub returns-clause-one : goal.returns-clause-one
returns-clause-one c = one_reading

pub returns-clause-covered : goal.returns-clause-covered
returns-clause-covered c = reading_covered
