use Rattle.std.proofs.Common.{refl}
use Rattle.task_listing.proofs.Steps.{begun_knows}
use Rattle.task_listing.proofs.listing.TaskListing.begin.Goals as goal

pub returns-clause-knows : goal.returns-clause-knows
returns-clause-knows c p master = begun_knows c.args.sd _ p (record { domain = refl; stage = refl; tasks = c.new.ensures; none = refl }) master
