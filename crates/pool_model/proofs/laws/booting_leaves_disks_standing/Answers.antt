use Rattle.pool_model.proofs.Boots.{more_stand}
use Rattle.pool_model.proofs.laws.booting_leaves_disks_standing.Goals as goal

pub returns : goal.returns
returns c = more_stand
