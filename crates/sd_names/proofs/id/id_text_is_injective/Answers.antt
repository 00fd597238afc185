use Rattle.sd_names.proofs.IdLemmas.{id_text-injective}
use Rattle.sd_names.proofs.id.id_text_is_injective.Goals as goal

pub returns : goal.returns
returns c = id_text-injective
