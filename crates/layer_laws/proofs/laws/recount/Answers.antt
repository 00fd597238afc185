use Rattle.layer_laws.proofs.Recounts.{recounted}
use Rattle.layer_laws.proofs.laws.recount.Goals as goal

pub returns : goal.returns
returns c n capacity x s s' h are is sound there only some = recounted n capacity x s s' h are is sound there only some
