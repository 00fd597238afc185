use Rattle.chain_model.proofs.Settled.{chain_backed, chain_flat}
use Rattle.chain_model.proofs.sectors.settled_headers_tell_the_chain.Goals as goal

pub returns-clause-path : goal.returns-clause-path
returns-clause-path c = chain_backed

pub returns-clause-sectors : goal.returns-clause-sectors
returns-clause-sectors c = chain_flat
