use Rattle.shared_disk.proofs.Outcomes.{stable_folder_outcome, with_outcome, with_here, with_other}
use Rattle.shared_disk.proofs.laws.outcomes_file_by_file.Goals as goal

pub returns-clause-some : goal.returns-clause-some
returns-clause-some c = stable_folder_outcome

pub returns-clause-one : goal.returns-clause-one
returns-clause-one c = with_outcome

pub returns-clause-here : goal.returns-clause-here
returns-clause-here c = with_here

pub returns-clause-other : goal.returns-clause-other
returns-clause-other c = with_other
