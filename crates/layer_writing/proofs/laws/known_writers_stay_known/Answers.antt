use Rattle.layer_writing.proofs.Others.{writer_down, writer_grown, writer_untouched}
use Rattle.layer_writing.proofs.laws.known_writers_stay_known.Goals as goal

pub returns-clause-untouched : goal.returns-clause-untouched
returns-clause-untouched c l host d e same knows = writer_untouched l host d e same knows

pub returns-clause-down : goal.returns-clause-down
returns-clause-down c l host other d e apart down knows = writer_down l host other d e apart down knows

pub returns-clause-grown : goal.returns-clause-grown
returns-clause-grown c l host size d e formed fits whole grows knows = writer_grown l host size d e formed fits whole grows knows
