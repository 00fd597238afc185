use Rattle.spm_role.specs.Spm.{master_of, tasks_of}
use Rattle.pool_recovering.proofs.Lists.{list_done, list_ended, list_more}
use Rattle.pool_recovering.proofs.recovering.list_on.Goals as goal

pub returns-in-More-clause-content : goal.returns-in-More-clause-content
returns-in-More-clause-content g c d tells =
    let call = c.in-More.ensures.content d tells in
    (call.0, call.1, list_more c.args.host (master_of c.args.spm.now) c.args.listing (tasks_of c.args.spm.now) (g.D.SharedDisk.faults c.step.new.disk) d call.0 c.in-More.next call.2)

pub returns-in-Done-clause-content : goal.returns-in-Done-clause-content
returns-in-Done-clause-content g c d tells =
    let call = c.in-Done.ensures.content d tells in (
      call.0,
      call.1,
      list_done c.args.host (master_of c.args.spm.now) c.args.listing (tasks_of c.args.spm.now) (g.D.SharedDisk.faults c.step.new.disk) d call.0 c.in-Done.listed c.behind_list.result
          (tasks_of c.behind_list.new.spm) call.2 c.behind_list.ensures.next,
    )

pub returns-in-Ended-clause-content : goal.returns-in-Ended-clause-content
returns-in-Ended-clause-content g c d tells =
    let call = c.in-Ended.ensures.content d tells in
    (call.0, call.1, list_ended c.args.host (master_of c.args.spm.now) c.args.listing (tasks_of c.args.spm.now) (g.D.SharedDisk.faults c.step.new.disk) d call.0 c.in-Ended.refusal call.2)
