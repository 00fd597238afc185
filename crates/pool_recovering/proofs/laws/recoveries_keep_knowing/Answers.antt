use Rattle.pool_recovering.proofs.Stable.{downs_keep, others_keep}
use Rattle.pool_recovering.proofs.laws.recoveries_keep_knowing.Goals as goal

pub returns-clause-others : goal.returns-clause-others
returns-clause-others c up v h g d e p q master tasks r beside knows = others_keep c.settlings_keep_knowing.ensures.others up v h g d e p q beside master tasks r knows

pub returns-clause-down : goal.returns-clause-down
returns-clause-down c up h g d e p q master tasks r stands leaves down apart knows = downs_keep c.settlings_keep_knowing.ensures.down up h g d e p q stands leaves down apart master tasks r knows
