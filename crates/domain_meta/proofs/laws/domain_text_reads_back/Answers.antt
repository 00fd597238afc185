use Rattle.domain_meta.proofs.Back.{reads_back}
use Rattle.domain_meta.proofs.laws.domain_text_reads_back.Goals as goal

pub returns : goal.returns
returns c = reads_back
