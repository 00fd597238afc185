use Rattle.spm_role.specs.Lists.{with_state}
use Rattle.spm_role.proofs.Setting.{IsSetUpTo}
use Rattle.spm_role.proofs.lists.TaskList.set.Given as goal

abbrev pub invariant-loop-pair : goal.invariant-loop-pair
invariant-loop-pair l = IsSetUpTo (with_state l.task l.state) l.initial.pair-items l.pair-items l.pair-index
