use Rattle.shared_disk.proofs.Outcomes.{write_file}
use Rattle.shared_disk.proofs.laws.outcome_after_a_write.Goals as goal

pub returns : goal.returns
returns c = write_file
