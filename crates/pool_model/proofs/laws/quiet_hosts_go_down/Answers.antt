use Rattle.pool_model.proofs.Downs.{down_pool, down_stands}
use Rattle.pool_model.proofs.laws.quiet_hosts_go_down.Goals as goal

pub returns : goal.returns
returns c up now d e p h stands down others quiet = (down_stands up now d e p h stands down others quiet, down_pool h p quiet)
