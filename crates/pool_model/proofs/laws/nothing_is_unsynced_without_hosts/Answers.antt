use Rattle.pool_model.proofs.Settles.{all_settled, untorn}
use Rattle.pool_model.proofs.laws.nothing_is_unsynced_without_hosts.Goals as goal

pub returns-clause-settled : goal.returns-clause-settled
returns-clause-settled c = all_settled

pub returns-clause-untorn : goal.returns-clause-untorn
returns-clause-untorn c = untorn
