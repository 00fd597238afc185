use Rattle.role_starting.proofs.Stable.{downs_keep, others_keep}
use Rattle.role_starting.proofs.laws.starts_keep_knowing.Goals as goal

pub returns-clause-others : goal.returns-clause-others
returns-clause-others c up v h g d e p q s beside knows =
    others_keep c.takings_keep_knowing.ensures.others c.takings_keep_knowing.ensures.others_managed c.recoveries_keep_knowing.ensures.others up v h g d e p q beside s knows

pub returns-clause-down : goal.returns-clause-down
returns-clause-down c up h g d e p q s stands leaves down apart knows =
    downs_keep c.takings_keep_knowing.ensures.down c.takings_keep_knowing.ensures.down_managed c.recoveries_keep_knowing.ensures.down up h g d e p q stands leaves down apart s knows
