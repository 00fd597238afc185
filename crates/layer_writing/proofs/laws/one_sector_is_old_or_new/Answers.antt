use Rattle.layer_writing.proofs.Known.{between_synced}
use Rattle.layer_writing.proofs.Sectors.{between_written, either_on_each}
use Rattle.layer_writing.proofs.laws.one_sector_is_old_or_new.Goals as goal

pub returns-clause-each : goal.returns-clause-each
returns-clause-each c did host at bytes f settled one = either_on_each did host at bytes f settled one

pub returns-clause-written : goal.returns-clause-written
returns-clause-written c host at bytes f settled one = between_written host at bytes f settled one

pub returns-clause-synced : goal.returns-clause-synced
returns-clause-synced c host old new f between = between_synced host old new f between
