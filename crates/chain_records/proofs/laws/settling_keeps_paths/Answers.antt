use Rattle.chain_records.proofs.Settled.{below_after, counts_after, legal_after, named_after, names_after, only_named, parent_stays, path_after, reading_after, up_reached}
use Rattle.chain_records.proofs.laws.settling_keeps_paths.Goals as goal

pub returns-clause-below : goal.returns-clause-below
returns-clause-below c = below_after

pub returns-clause-count : goal.returns-clause-count
returns-clause-count c = counts_after

pub returns-clause-path : goal.returns-clause-path
returns-clause-path c = path_after

pub returns-clause-legal : goal.returns-clause-legal
returns-clause-legal c = legal_after

pub returns-clause-reading : goal.returns-clause-reading
returns-clause-reading c = reading_after

pub returns-clause-named : goal.returns-clause-named
returns-clause-named c = named_after

pub returns-clause-only : goal.returns-clause-only
returns-clause-only c = only_named

pub returns-clause-headers : goal.returns-clause-headers
returns-clause-headers c = names_after

pub returns-clause-stays : goal.returns-clause-stays
returns-clause-stays c = parent_stays

pub returns-clause-reached : goal.returns-clause-reached
returns-clause-reached c = up_reached
