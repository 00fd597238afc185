use Rattle.host_core.proofs.Knowing.{downs_keep, others_keep}
use Rattle.host_core.proofs.laws.hosts_keep_knowing.Goals as goal

pub returns-clause-owned : goal.returns-clause-owned
returns-clause-owned c up d p q h k x stands owned apart some alive knows = others_keep up d p q h k x stands apart knows owned some alive

pub returns-clause-down : goal.returns-clause-down
returns-clause-down c up d p q h k x stands down apart knows = downs_keep up d p q h k x stands apart knows down
