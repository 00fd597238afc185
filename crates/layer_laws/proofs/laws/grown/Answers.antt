use Rattle.layer_laws.proofs.Grows.{grown}
use Rattle.layer_laws.proofs.laws.grown.Goals as goal

pub returns : goal.returns
returns c n longer capacity s s' h is sound le same zeros = grown n longer capacity s s' h is sound le same zeros
