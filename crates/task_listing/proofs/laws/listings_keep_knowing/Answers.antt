use Rattle.task_listing.proofs.Stable.{downs_keep, others_keep}
use Rattle.task_listing.proofs.laws.listings_keep_knowing.Goals as goal

pub returns-clause-others : goal.returns-clause-others
returns-clause-others c = others_keep

pub returns-clause-down : goal.returns-clause-down
returns-clause-down c = downs_keep
