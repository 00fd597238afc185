use Rattle.shared_disk.proofs.Outcomes.{settled_itself}
use Rattle.layer_linking.proofs.laws.outcomes_come_from_the_start.Goals as goal

pub returns : goal.returns
returns c l layer host f e settled left g out = (f, settled_itself f settled, left.either.each g out)
