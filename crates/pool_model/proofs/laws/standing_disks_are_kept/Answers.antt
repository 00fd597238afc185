use Rattle.pool_model.proofs.Kept.{standing_covered, standing_keeps}
use Rattle.pool_model.proofs.laws.standing_disks_are_kept.Goals as goal

pub returns-clause-covered : goal.returns-clause-covered
returns-clause-covered c = standing_covered

pub returns-clause-keeps : goal.returns-clause-keeps
returns-clause-keeps c = standing_keeps
