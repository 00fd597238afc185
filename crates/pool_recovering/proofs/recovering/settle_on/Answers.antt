use Rattle.std.proofs.Common.{List, sym, subst}
use Rattle.sd_names.specs.declared.turn.Turn.TheVariants.{Done}
use Rattle.spm_role.specs.Spm.{master_of, tasks_of}
use Rattle.image_removing.specs.Falls.{Costs}
use Rattle.task_listing.specs.Listing.{Noted}
use Rattle.pool_recovering.specs.Recovering.{RecoveryTurn}
use Rattle.pool_recovering.specs.Steps.{RecoversPool}
use Rattle.pool_recovering.specs.declared.recovering.PoolRecovery.TheVariants.{Settling}
use Rattle.pool_recovering.proofs.Settles.{settle_done, settle_ended, settle_more}
use Rattle.pool_recovering.proofs.recovering.settle_on.Goals as goal

pub returns-in-More-clause-content : goal.returns-in-More-clause-content
returns-in-More-clause-content g c d tells =
    let call = c.in-More.ensures.content d tells in
    let none : Costs = λ pass after. 0 in
    (call.0, call.1, settle_more c.args.host (master_of c.args.spm.now) (tasks_of c.args.spm.now) c.args.task c.args.settling (g.D.SharedDisk.faults c.step.new.disk) d call.0 c.in-More.next (c.in-More.ensures.falls none).task_is call.2)

pub returns-in-Done-clause-content : goal.returns-in-Done-clause-content
returns-in-Done-clause-content g c d tells =
    let call = c.in-Done.ensures.content d tells in (
      call.0,
      call.1,
      subst (λ (z : RecoveryTurn). RecoversPool (Settling c.args.task c.args.settling) c.args.host (master_of c.args.spm.now) (tasks_of c.args.spm.now) (g.D.SharedDisk.faults c.step.new.disk) z c.set.new.self d call.0)
          (sym c.behind_settling.ensures)
          (subst (λ (ts : List Noted). RecoversPool (Settling c.args.task c.args.settling) c.args.host (master_of c.args.spm.now) (tasks_of c.args.spm.now) (g.D.SharedDisk.faults c.step.new.disk) (Done 1) ts d call.0)
          (sym c.set.ensures)
          (settle_done c.args.host (master_of c.args.spm.now) (tasks_of c.args.spm.now) c.args.task c.args.settling (g.D.SharedDisk.faults c.step.new.disk) d call.0 c.in-Done.state call.2)),
    )

pub returns-in-Ended-clause-content : goal.returns-in-Ended-clause-content
returns-in-Ended-clause-content g c d tells =
    let call = c.in-Ended.ensures.content d tells in
    (call.0, call.1, settle_ended c.args.host (master_of c.args.spm.now) (tasks_of c.args.spm.now) c.args.task c.args.settling (g.D.SharedDisk.faults c.step.new.disk) d call.0 c.in-Ended.refusal call.2)
