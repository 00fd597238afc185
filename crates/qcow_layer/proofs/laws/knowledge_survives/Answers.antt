use Rattle.qcow_layer.proofs.Known.{survives}
use Rattle.qcow_layer.proofs.laws.knowledge_survives.Goals as goal

pub returns : goal.returns
returns c o host count sectors d e knows seen same = survives o.target host count sectors o.stage d e knows seen same
