use Rattle.qcow_layer.proofs.Anew.{fresh_known}
use Rattle.qcow_layer.proofs.laws.fresh_layers_are_known.Goals as goal

pub returns : goal.returns
returns c layer id at capacity greatest backing bytes host d f fresh fits long there made = fresh_known layer id at capacity greatest backing bytes host d f fresh fits long there made
