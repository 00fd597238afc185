use Rattle.host_core.proofs.Knowing.{boots_know}
use Rattle.host_core.proofs.laws.booted_hosts_know.Goals as goal

pub returns : goal.returns
returns c = boots_know
