use Rattle.domain_meta.proofs.Back.{is_short}
use Rattle.domain_meta.proofs.laws.domain_text_is_short.Goals as goal

pub returns : goal.returns
returns c = is_short
