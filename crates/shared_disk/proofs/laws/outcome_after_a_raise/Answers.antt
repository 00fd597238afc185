use Rattle.shared_disk.proofs.Changes.{raised_old, raised_new}
use Rattle.shared_disk.proofs.laws.outcome_after_a_raise.Goals as goal

pub returns-clause-old : goal.returns-clause-old
returns-clause-old c = raised_old

pub returns-clause-new : goal.returns-clause-new
returns-clause-new c = raised_new
