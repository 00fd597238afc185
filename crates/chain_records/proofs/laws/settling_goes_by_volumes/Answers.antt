use Rattle.chain_records.proofs.Stepwise.{parent_step, parents_done, type_step}
use Rattle.chain_records.proofs.laws.settling_goes_by_volumes.Goals as goal

pub returns-clause-parent : goal.returns-clause-parent
returns-clause-parent c = parent_step

pub returns-clause-done : goal.returns-clause-done
returns-clause-done c = parents_done

pub returns-clause-voltype : goal.returns-clause-voltype
returns-clause-voltype c = type_step
