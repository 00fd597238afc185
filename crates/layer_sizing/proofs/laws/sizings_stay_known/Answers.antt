use Rattle.layer_sizing.proofs.Survives.{down, untouched}
use Rattle.layer_sizing.proofs.laws.sizings_stay_known.Goals as goal

pub returns-clause-untouched : goal.returns-clause-untouched
returns-clause-untouched c s layer host d e same knows = untouched s layer host d e same knows

pub returns-clause-down : goal.returns-clause-down
returns-clause-down c s layer host other d e apart leaves knows = down s layer host other d e apart leaves knows
