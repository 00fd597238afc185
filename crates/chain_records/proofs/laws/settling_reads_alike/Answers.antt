use Rattle.chain_records.proofs.Again.{pass_again}
use Rattle.chain_records.proofs.Partly.{flats_alike, legal_alike, name_alike, own_alike, path_alike, reading_alike, still_chain}
use Rattle.chain_records.proofs.laws.settling_reads_alike.Goals as goal

pub returns-clause-chain : goal.returns-clause-chain
returns-clause-chain c = still_chain

pub returns-clause-path : goal.returns-clause-path
returns-clause-path c = path_alike

pub returns-clause-legal : goal.returns-clause-legal
returns-clause-legal c = legal_alike

pub returns-clause-reading : goal.returns-clause-reading
returns-clause-reading c = reading_alike

pub returns-clause-named : goal.returns-clause-named
returns-clause-named c = name_alike

pub returns-clause-own : goal.returns-clause-own
returns-clause-own c = own_alike

pub returns-clause-flats : goal.returns-clause-flats
returns-clause-flats c = flats_alike

pub returns-clause-passes : goal.returns-clause-passes
returns-clause-passes c = pass_again
