use Rattle.unsynced_laws.proofs.Unsynced.{listed, measured, named, read}
use Rattle.unsynced_laws.proofs.laws.reads_leave_all.Goals as goal

pub returns-clause-read : goal.returns-clause-read
returns-clause-read c = read

pub returns-clause-measured : goal.returns-clause-measured
returns-clause-measured c = measured

pub returns-clause-named : goal.returns-clause-named
returns-clause-named c = named

pub returns-clause-listed : goal.returns-clause-listed
returns-clause-listed c = listed
