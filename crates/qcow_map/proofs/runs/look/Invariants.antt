use Rattle.qcow_layer.specs.Looking.{looks_left, table_of}
use Rattle.qcow_map.proofs.runs.look.Given as goal

abbrev pub decreases-loop-next : goal.decreases-loop-next
decreases-loop-next l = looks_left (table_of l.work)
