use Rattle.task_store.proofs.Short.{is_short}
use Rattle.task_store.proofs.laws.task_text_is_short.Goals as goal

pub returns : goal.returns
returns c = is_short
