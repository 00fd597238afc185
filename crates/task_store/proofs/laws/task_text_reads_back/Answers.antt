use Rattle.task_store.proofs.Back.{reads_back}
use Rattle.task_store.proofs.laws.task_text_reads_back.Goals as goal

pub returns : goal.returns
returns c = reads_back
