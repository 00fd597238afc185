use Rattle.chain_model.proofs.LongerOutcomes.{flats_of_longer, outcome_before}
use Rattle.chain_model.proofs.growth.longer_files_survive_alike.Goals as goal

pub returns-clause-file : goal.returns-clause-file
returns-clause-file c = outcome_before

pub returns-clause-flats : goal.returns-clause-flats
returns-clause-flats c = flats_of_longer
