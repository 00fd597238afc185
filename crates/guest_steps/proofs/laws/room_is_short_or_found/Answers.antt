use Rattle.guest_steps.proofs.Rooms.{as_defined, lacks, not_both, not_short_there, short_or_found}
use Rattle.guest_steps.proofs.laws.room_is_short_or_found.Goals as goal

pub returns-clause-either : goal.returns-clause-either
returns-clause-either c = short_or_found

pub returns-clause-never : goal.returns-clause-never
returns-clause-never c = not_both

pub returns-clause-refused : goal.returns-clause-refused
returns-clause-refused c = lacks

pub returns-clause-goes : goal.returns-clause-goes
returns-clause-goes c = not_short_there

pub returns-clause-whole : goal.returns-clause-whole
returns-clause-whole c = as_defined
