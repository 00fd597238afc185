use Rattle.pool_model.proofs.Booted.{booted_are_up}
use Rattle.pool_model.proofs.laws.booted_hosts_are_up.Goals as goal

pub returns : goal.returns
returns c = booted_are_up
