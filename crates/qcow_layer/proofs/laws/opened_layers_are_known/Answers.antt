use Rattle.qcow_layer.proofs.Knowing.{opened_known}
use Rattle.qcow_layer.proofs.laws.opened_layers_are_known.Goals as goal

pub returns : goal.returns
returns c layer host count sectors d seen settled fits opened = opened_known layer host count sectors d seen settled fits opened
