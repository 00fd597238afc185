use Rattle.qcow_layer.proofs.Knowing.{known_down, known_grown, known_untouched}
use Rattle.qcow_layer.proofs.laws.known_layers_stay_known.Goals as goal

pub returns-clause-untouched : goal.returns-clause-untouched
returns-clause-untouched c layer host d e same knows = known_untouched layer host d e same knows

pub returns-clause-down : goal.returns-clause-down
returns-clause-down c layer host other d e apart down knows = known_down layer host other d e apart down knows

pub returns-clause-grown : goal.returns-clause-grown
returns-clause-grown c layer host size d e formed fits grows knows = known_grown layer host size d e formed fits grows knows
