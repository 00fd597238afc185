use Rattle.layer_walk.proofs.Named.{fewer_from, names_differ, some_stop}
use Rattle.qcow_layer.proofs.Known.{bounds}
use Rattle.qcow_layer.proofs.laws.known_files_bound_the_steps.Goals as goal

pub returns-clause-fits : goal.returns-clause-fits
returns-clause-fits c o host count stop sectors d h knows is stops = bounds o.target host count stop sectors o.stage h d knows is stops

pub returns-clause-fewer : goal.returns-clause-fewer
returns-clause-fewer c t capacity stop = fewer_from t capacity stop

pub returns-clause-begun : goal.returns-clause-begun
returns-clause-begun c o id place capacity most h tables begun = begun.left h tables

pub returns-clause-stops : goal.returns-clause-stops
returns-clause-stops c t capacity = some_stop t capacity

pub returns-clause-differ : goal.returns-clause-differ
returns-clause-differ c t capacity stop a b place is lt within here there = names_differ t capacity stop a b place is lt within here there
