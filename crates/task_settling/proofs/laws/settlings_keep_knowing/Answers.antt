use Rattle.task_settling.proofs.Stable.{downs_keep, others_keep}
use Rattle.task_settling.proofs.laws.settlings_keep_knowing.Goals as goal

pub returns-clause-others : goal.returns-clause-others
returns-clause-others c up v h g d e p q t beside knows = others_keep c.task_knowledge_survives_others.ensures up v h g d e p q t beside knows

pub returns-clause-down : goal.returns-clause-down
returns-clause-down c up h g d e p q t stands leaves down apart knows = downs_keep up h g d e p q stands leaves down apart t knows
