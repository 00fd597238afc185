use Rattle.chain_settling.proofs.Rights.{heads_of_settled, right_of_settled}
use Rattle.chain_settling.proofs.Known.{all_settled, chain_known}
use Rattle.chain_settling.proofs.laws.settled_chains_are_known.Goals as goal

pub returns-clause-known : goal.returns-clause-known
returns-clause-known c chain host r x d is valid = chain_known chain host r x d is valid

pub returns-clause-settled : goal.returns-clause-settled
returns-clause-settled c chain host r x d is = all_settled chain host r x d is

pub returns-clause-right : goal.returns-clause-right
returns-clause-right c chain host r x d v is = right_of_settled chain host r x d v is

pub returns-clause-heads : goal.returns-clause-heads
returns-clause-heads c chain host r x d b l back k is needs = heads_of_settled chain host r x d b l back k is needs
