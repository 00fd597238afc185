use Rattle.layer_linking.proofs.Survives.{down, untouched}
use Rattle.layer_linking.proofs.laws.linkings_stay_known.Goals as goal

pub returns-clause-untouched : goal.returns-clause-untouched
returns-clause-untouched c l layer host f d e same knows = untouched l layer host f d e same knows

pub returns-clause-down : goal.returns-clause-down
returns-clause-down c l layer host other f d e apart leaves knows = down l layer host f other d e apart leaves knows
