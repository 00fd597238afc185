use Rattle.pool_model.proofs.Empty.{empty_stands}
use Rattle.pool_model.proofs.laws.empty_disks_stand.Goals as goal

pub returns : goal.returns
returns c = empty_stands
