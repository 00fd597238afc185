use Rattle.qcow_layer.proofs.Known.{parent_none}
use Rattle.qcow_layer.proofs.laws.parents_are_backing_files.Goals as goal

pub returns : goal.returns
returns c target file work opened = parent_none target file work opened
