use Rattle.shared_disk.proofs.Outcomes.{down_file, down_folder}
use Rattle.shared_disk.proofs.laws.outcome_after_a_down.Goals as goal

pub returns-clause-file : goal.returns-clause-file
returns-clause-file c = down_file

pub returns-clause-folder : goal.returns-clause-folder
returns-clause-folder c = down_folder
