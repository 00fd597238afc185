use Rattle.qcow_layer.proofs.Knowing.{known_seen}
use Rattle.qcow_layer.proofs.laws.known_layers_are_seen.Goals as goal

pub returns : goal.returns
returns c layer host d knows = known_seen layer host d knows
