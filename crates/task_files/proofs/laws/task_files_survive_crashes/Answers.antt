use Rattle.task_files.proofs.Lives.{one_on_each, task_stays}
use Rattle.task_files.proofs.laws.task_files_survive_crashes.Goals as goal

pub returns-clause-one : goal.returns-clause-one
returns-clause-one c d o place was has out = task_stays d o place was has out

pub returns-clause-each : goal.returns-clause-each
returns-clause-each c d place ts has = one_on_each d place ts has
