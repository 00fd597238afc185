use Rattle.shared_disk.proofs.NameOutcomes.{two_outcomes}
use Rattle.shared_disk.proofs.laws.outcomes_of_two_files.Goals as goal

pub returns : goal.returns
returns c = two_outcomes
