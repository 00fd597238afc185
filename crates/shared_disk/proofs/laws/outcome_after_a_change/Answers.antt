use Rattle.shared_disk.proofs.Outcomes.{frame}
use Rattle.shared_disk.proofs.laws.outcome_after_a_change.Goals as goal

pub returns : goal.returns
returns c = frame
