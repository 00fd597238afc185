use Rattle.layer_writing.proofs.Known.{anew}
use Rattle.layer_writing.proofs.laws.layers_are_known_anew.Goals as goal

pub returns : goal.returns
returns c l m host f g knows same size settled numbers = anew l m host f g knows same size settled numbers
