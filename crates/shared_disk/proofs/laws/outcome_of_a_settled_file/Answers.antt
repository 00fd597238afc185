use Rattle.shared_disk.proofs.Outcomes.{settled_file, settled_itself}
use Rattle.shared_disk.proofs.laws.outcome_of_a_settled_file.Goals as goal

pub returns-clause-only : goal.returns-clause-only
returns-clause-only c = settled_file

pub returns-clause-itself : goal.returns-clause-itself
returns-clause-itself c = settled_itself
