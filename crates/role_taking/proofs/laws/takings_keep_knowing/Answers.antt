use Rattle.role_taking.proofs.Stable.{managed_down, managed_stays, taking_down, taking_stays}
use Rattle.role_taking.proofs.laws.takings_keep_knowing.Goals as goal

pub returns-clause-others : goal.returns-clause-others
returns-clause-others c up d h g p q t beside knows = taking_stays up d h g p q beside t knows

pub returns-clause-others_managed : goal.returns-clause-others_managed
returns-clause-others_managed c up d h g p q spm beside knows = managed_stays up d h g p q beside spm knows

pub returns-clause-down : goal.returns-clause-down
returns-clause-down c h g p q t down knows = taking_down h g p q down t knows

pub returns-clause-down_managed : goal.returns-clause-down_managed
returns-clause-down_managed c h g p q spm down knows = managed_down h g p q down spm knows
