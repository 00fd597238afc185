use Rattle.shared_disk.proofs.Others.{seen_after_down, seen_after_exchange, seen_after_raise, seen_after_sync, seen_after_write}
use Rattle.shared_disk.proofs.laws.what_a_host_sees_stays.Goals as goal

pub returns-clause-write : goal.returns-clause-write
returns-clause-write c = seen_after_write

pub returns-clause-sync : goal.returns-clause-sync
returns-clause-sync c = seen_after_sync

pub returns-clause-down : goal.returns-clause-down
returns-clause-down c = seen_after_down

pub returns-clause-exchange : goal.returns-clause-exchange
returns-clause-exchange c = seen_after_exchange

pub returns-clause-raise : goal.returns-clause-raise
returns-clause-raise c = seen_after_raise
