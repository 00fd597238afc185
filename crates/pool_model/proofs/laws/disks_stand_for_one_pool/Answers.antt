use Rattle.pool_model.proofs.OnePool.{one_pool}
use Rattle.pool_model.proofs.laws.disks_stand_for_one_pool.Goals as goal

pub returns : goal.returns
returns c = one_pool
