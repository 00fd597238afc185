use Rattle.task_settling.proofs.Begun.{begun_knows_pool}
use Rattle.task_settling.proofs.laws.a_begun_settling_knows_its_pool.Goals as goal

pub returns : goal.returns
returns c up d p h master task t stands ids known behind = begun_knows_pool up d p h master task stands ids known t behind
