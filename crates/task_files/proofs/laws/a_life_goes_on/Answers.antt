use Rattle.task_files.proofs.Lives.{goes_on_removed, goes_on_written}
use Rattle.task_files.proofs.laws.a_life_goes_on.Goals as goal

pub returns-clause-written : goal.returns-clause-written
returns-clause-written c d e place t ts has is = goes_on_written d e place t ts has is

pub returns-clause-removed : goal.returns-clause-removed
returns-clause-removed c d e place ts has is = goes_on_removed d e place ts has is
