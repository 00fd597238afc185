use Rattle.layer_walk.proofs.Insides.{fewer_positions}
use Rattle.qcow_layer.proofs.Known.{inside_bounds}
use Rattle.qcow_layer.proofs.laws.every_disk_bounds_the_steps.Goals as goal

pub returns-clause-fits : goal.returns-clause-fits
returns-clause-fits c o h same inside = inside_bounds h o.stage same inside

pub returns-clause-fewer : goal.returns-clause-fewer
returns-clause-fewer c h = fewer_positions h
