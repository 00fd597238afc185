use Rattle.chain_settling.proofs.Outcomes.{flats_on, reading_on, records_on, types_on}
use Rattle.chain_settling.proofs.laws.settling_survives_crashes.Goals as goal

pub returns-clause-records : goal.returns-clause-records
returns-clause-records c i dir r x d o a out = records_on i dir r x d o a out

pub returns-clause-types : goal.returns-clause-types
returns-clause-types c i dir r x d o v a out = types_on i dir r x d o a out v

pub returns-clause-reading : goal.returns-clause-reading
returns-clause-reading c i dir r x d o v vs a out reads = reading_on i dir r x d o v vs a out reads

pub returns-clause-flats : goal.returns-clause-flats
returns-clause-flats c i dir r x d o flats a out chains reads = flats_on i dir r x d o flats a out chains reads
