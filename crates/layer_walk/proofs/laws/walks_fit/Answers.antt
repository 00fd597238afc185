use Rattle.layer_walk.proofs.Named.{fewer_from, names_differ, some_stop, walk_fits}
use Rattle.layer_walk.proofs.laws.walks_fit.Goals as goal

pub returns-clause-fits : goal.returns-clause-fits
returns-clause-fits c t capacity stop walk is known = walk_fits t capacity stop is walk known

pub returns-clause-fewer : goal.returns-clause-fewer
returns-clause-fewer c t capacity stop = fewer_from t capacity stop

pub returns-clause-differ : goal.returns-clause-differ
returns-clause-differ c t capacity stop a b place is lt within here there = names_differ t capacity stop a b place is lt within here there

pub returns-clause-stops : goal.returns-clause-stops
returns-clause-stops c t capacity = some_stop t capacity
