use Rattle.layer_walk.proofs.Insides.{fewer_positions, inside_fits}
use Rattle.layer_walk.proofs.laws.walks_inside_fit.Goals as goal

pub returns-clause-fits : goal.returns-clause-fits
returns-clause-fits c h walk is = inside_fits h walk is

pub returns-clause-fewer : goal.returns-clause-fewer
returns-clause-fewer c h = fewer_positions h
