use Rattle.std.proofs.Common.{refl}
use Rattle.layer_placing.proofs.placing.Placing.begin.Goals as goal

pub returns : goal.returns
returns c = (_, refl, refl)
