use Rattle.layer_linking.proofs.Survives.{begun}
use Rattle.layer_linking.proofs.laws.linkings_begin.Goals as goal

pub returns : goal.returns
returns c l layer host table f d can there is stage = begun l layer host f table d can there is stage
