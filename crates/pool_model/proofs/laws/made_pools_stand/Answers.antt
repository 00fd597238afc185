use Rattle.pool_model.proofs.MadePool.{made_stands}
use Rattle.pool_model.proofs.laws.made_pools_stand.Goals as goal

pub returns : goal.returns
returns c = made_stands
