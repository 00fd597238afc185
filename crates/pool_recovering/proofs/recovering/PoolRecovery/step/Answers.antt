use Rattle.std.proofs.Common.{sym, subst}
use Rattle.spm_role.specs.Spm.{master_of, tasks_of}
use Rattle.pool_recovering.specs.Steps.{RecoversPool}
use Rattle.pool_recovering.specs.declared.recovering.PoolRecovery.{PoolRecovery}
use Rattle.pool_recovering.proofs.recovering.PoolRecovery.step.Goals as goal

pub returns-in-Settling-clause-content : goal.returns-in-Settling-clause-content
returns-in-Settling-clause-content g c d tells =
    let call = c.settle_on.ensures.content d tells in (
      call.0,
      call.1,
      subst (λ (r : PoolRecovery). RecoversPool r c.args.host (master_of c.args.spm.now) (tasks_of c.args.spm.now) (g.D.SharedDisk.faults c.settle_on.new.disk) c.settle_on.result (tasks_of c.settle_on.new.spm) d call.0)
          (sym c.in-Settling.is) call.2,
    )
