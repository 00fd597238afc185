use Rattle.sector_freeing.proofs.Beside.{downs_keep, freed_still, known_still, others_keep}
use Rattle.sector_freeing.proofs.laws.freeings_keep_knowing.Goals as goal

pub returns-clause-others : goal.returns-clause-others
returns-clause-others c up v h g d e p q s beside known = others_keep up v h g d e p q s beside known

pub returns-clause-freed : goal.returns-clause-freed
returns-clause-freed c up v h g d e p q sd beside known none =
    (known_still up v h g d e p q beside known.leads sd known, freed_still up v h g d e p q beside known.leads sd none)

pub returns-clause-down : goal.returns-clause-down
returns-clause-down c up h g d e p q s stands leaves down apart known = downs_keep up h g d e p q stands leaves down s known
