use Rattle.pool_model.proofs.Guests.{hold_alone, write_alone}
use Rattle.pool_model.proofs.laws.guests_are_alone.Goals as goal

pub returns-clause-holds : goal.returns-clause-holds
returns-clause-holds c = hold_alone

pub returns-clause-writes : goal.returns-clause-writes
returns-clause-writes c = write_alone
