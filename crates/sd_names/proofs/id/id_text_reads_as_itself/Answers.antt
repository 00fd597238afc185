use Rattle.sd_names.proofs.IdLemmas.{reads_itself}
use Rattle.sd_names.proofs.id.id_text_reads_as_itself.Goals as goal

pub returns : goal.returns
returns c = reads_itself
