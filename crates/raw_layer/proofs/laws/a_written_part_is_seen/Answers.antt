use Rattle.raw_layer.proofs.Steps.{seen_beside_down, seen_beside_sync, seen_beside_write, set_seen}
use Rattle.raw_layer.proofs.laws.a_written_part_is_seen.Goals as goal

pub returns-clause-set : goal.returns-clause-set
returns-clause-set c = set_seen

pub returns-clause-write : goal.returns-clause-write
returns-clause-write c = seen_beside_write

pub returns-clause-sync : goal.returns-clause-sync
returns-clause-sync c = seen_beside_sync

pub returns-clause-down : goal.returns-clause-down
returns-clause-down c = seen_beside_down
