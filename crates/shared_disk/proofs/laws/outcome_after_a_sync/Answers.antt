use Rattle.shared_disk.proofs.Others.{alone_at_file, alone_everywhere}
use Rattle.shared_disk.proofs.Outcomes.{synced_file, alone_file}
use Rattle.shared_disk.proofs.laws.outcome_after_a_sync.Goals as goal

pub returns-clause-before : goal.returns-clause-before
returns-clause-before c = synced_file

pub returns-clause-alone : goal.returns-clause-alone
returns-clause-alone c = alone_file

pub returns-clause-sector : goal.returns-clause-sector
returns-clause-sector c = alone_at_file

pub returns-clause-everywhere : goal.returns-clause-everywhere
returns-clause-everywhere c = alone_everywhere
