use Rattle.pool_model.proofs.Stable.{booted_know}
use Rattle.pool_model.proofs.laws.booted_hosts_know.Goals as goal

pub returns : goal.returns
returns c = booted_know
