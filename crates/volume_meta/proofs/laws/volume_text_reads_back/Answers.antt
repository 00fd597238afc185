use Rattle.volume_meta.proofs.Back.{reads_back}
use Rattle.volume_meta.proofs.laws.volume_text_reads_back.Goals as goal

pub returns : goal.returns
returns c = reads_back
