use Rattle.chain_model.proofs.Opened.{openable_if_none, openable_without}
use Rattle.chain_model.proofs.opening.opened_without_refusal.Goals as goal

pub returns-clause-openable : goal.returns-clause-openable
returns-clause-openable c = openable_without

pub returns-clause-none : goal.returns-clause-none
returns-clause-none c = openable_if_none
