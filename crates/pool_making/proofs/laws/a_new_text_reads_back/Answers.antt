use Rattle.pool_making.proofs.NewText.{new_text_reads}
use Rattle.pool_making.proofs.laws.a_new_text_reads_back.Goals as goal

pub returns : goal.returns
returns c pool sd version text first second fits short one = new_text_reads pool sd version text first second fits short one
