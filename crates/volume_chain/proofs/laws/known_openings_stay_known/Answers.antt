use Rattle.volume_chain.proofs.Between.{stage_down, stage_untouched}
use Rattle.volume_chain.proofs.Growing.{stage_grown}
use Rattle.volume_chain.proofs.laws.known_openings_stay_known.Goals as goal

pub returns-clause-untouched : goal.returns-clause-untouched
returns-clause-untouched c o host x d e there same knows = stage_untouched o.stage host x d e there same knows

pub returns-clause-down : goal.returns-clause-down
returns-clause-down c o host other x d e apart down knows = stage_down o.stage host other x d e apart down knows

pub returns-clause-grown : goal.returns-clause-grown
returns-clause-grown c o host x d e there grown lengths knows = stage_grown o.stage host x d e there grown lengths knows
