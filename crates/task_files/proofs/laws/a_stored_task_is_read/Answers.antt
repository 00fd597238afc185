use Rattle.task_files.proofs.Found.{none_stored, stored}
use Rattle.task_files.proofs.laws.a_stored_task_is_read.Goals as goal

pub returns-clause-there : goal.returns-clause-there
returns-clause-there c host faults place t result d e valid has is = stored host faults place t result d e valid has is

pub returns-clause-absent : goal.returns-clause-absent
returns-clause-absent c host faults place id result d e none is = none_stored host faults place id result d e none is
