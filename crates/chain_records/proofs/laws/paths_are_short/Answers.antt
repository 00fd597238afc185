use Rattle.chain_records.proofs.Short.{chain_inside, has_chain, short_path}
use Rattle.chain_records.proofs.laws.paths_are_short.Goals as goal

pub returns-clause-chain : goal.returns-clause-chain
returns-clause-chain c = has_chain

pub returns-clause-inside : goal.returns-clause-inside
returns-clause-inside c = chain_inside

pub returns-clause-short : goal.returns-clause-short
returns-clause-short c = short_path
