use Rattle.task_store.proofs.Short.{no_zero}
use Rattle.task_store.proofs.laws.task_text_has_no_zero.Goals as goal

pub returns : goal.returns
returns c = no_zero
