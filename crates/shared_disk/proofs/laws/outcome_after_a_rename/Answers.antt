use Rattle.shared_disk.proofs.NameOutcomes.{rename_outcome}
use Rattle.shared_disk.proofs.laws.outcome_after_a_rename.Goals as goal

pub returns : goal.returns
returns c = rename_outcome
