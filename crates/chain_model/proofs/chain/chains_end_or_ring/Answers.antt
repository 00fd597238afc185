use Rattle.chain_model.proofs.Rings.{chain_or_ring, no_chain}
use Rattle.chain_model.proofs.chain.chains_end_or_ring.Goals as goal

pub returns-clause-either : goal.returns-clause-either
returns-clause-either c = chain_or_ring

pub returns-clause-apart : goal.returns-clause-apart
returns-clause-apart c = no_chain
