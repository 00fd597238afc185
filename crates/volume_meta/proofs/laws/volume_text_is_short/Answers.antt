use Rattle.volume_meta.proofs.Back.{is_short}
use Rattle.volume_meta.proofs.laws.volume_text_is_short.Goals as goal

pub returns : goal.returns
returns c = is_short
