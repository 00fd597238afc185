use Rattle.lease_area.specs.Noted.{empty_at, lease_at}
use Rattle.lease_area.proofs.First.{first_least, first_none}
use Rattle.lease_area.proofs.laws.noted_sectors_are_least.Goals as goal

pub returns-clause-lease : goal.returns-clause-lease
returns-clause-lease c image from n room a is = let least = first_least (lease_at image from room) n a is in (least.k, least.below, least.is, least.before)

pub returns-clause-no_lease : goal.returns-clause-no_lease
returns-clause-no_lease c image from n room is = first_none (lease_at image from room) n is

pub returns-clause-empty : goal.returns-clause-empty
returns-clause-empty c from n a room is = let least = first_least (empty_at from room) n a is in (least.k, least.below, least.is, least.before)

pub returns-clause-no_empty : goal.returns-clause-no_empty
returns-clause-no_empty c from n room is = first_none (empty_at from room) n is
