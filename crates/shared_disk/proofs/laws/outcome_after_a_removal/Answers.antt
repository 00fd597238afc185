use Rattle.shared_disk.proofs.NameOutcomes.{remove_outcome}
use Rattle.shared_disk.proofs.laws.outcome_after_a_removal.Goals as goal

pub returns : goal.returns
returns c = remove_outcome
