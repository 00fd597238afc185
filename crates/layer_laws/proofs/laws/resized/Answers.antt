use Rattle.layer_laws.proofs.Rebases.{resized}
use Rattle.layer_laws.proofs.laws.resized.Goals as goal

pub returns : goal.returns
returns c = resized
