use Rattle.shared_disk.proofs.OwnWrites.{seen_within, seen_outside, seen_either}
use Rattle.shared_disk.proofs.laws.own_write_is_seen.Goals as goal

pub returns-clause-within : goal.returns-clause-within
returns-clause-within c = seen_within

pub returns-clause-outside : goal.returns-clause-outside
returns-clause-outside c = seen_outside

pub returns-clause-either : goal.returns-clause-either
returns-clause-either c = seen_either
