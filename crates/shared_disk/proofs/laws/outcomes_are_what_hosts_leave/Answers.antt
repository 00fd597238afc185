use Rattle.shared_disk.proofs.Outcomes.{in_order, from_order}
use Rattle.shared_disk.proofs.laws.outcomes_are_what_hosts_leave.Goals as goal

pub returns-clause-reached : goal.returns-clause-reached
returns-clause-reached c = in_order

pub returns-clause-all : goal.returns-clause-all
returns-clause-all c = from_order
