use Rattle.chain_model.proofs.Flats.{folder_outcome, same_volumes}
use Rattle.chain_model.proofs.Outcomes.{flats_elsewhere, outcome_with}
use Rattle.chain_model.proofs.chain.other_names_say_nothing.Goals as goal

pub returns-clause-same : goal.returns-clause-same
returns-clause-same c = same_volumes

pub returns-clause-outcome : goal.returns-clause-outcome
returns-clause-outcome c = folder_outcome

pub returns-clause-elsewhere : goal.returns-clause-elsewhere
returns-clause-elsewhere c = outcome_with

pub returns-clause-flats : goal.returns-clause-flats
returns-clause-flats c = flats_elsewhere
