use Rattle.role_starting.proofs.Recovers.{asked_still, recover_done, recover_ended, recover_more}
use Rattle.role_starting.proofs.starting.recover_on.Goals as goal

pub returns-in-More-clause-content : goal.returns-in-More-clause-content
returns-in-More-clause-content g c up d tells =
    let call = c.in-More.ensures.content d tells in (
      call.0,
      call.1,
      recover_more c.recoveries_are_turns.ensures c.args.host up c.args.spm c.args.recovery (g.D.SharedDisk.faults c.step.new.disk) d call.0 c.step.new.spm c.in-More.next
          c.step.ensures.manager call.2,
    )

pub returns-in-More-clause-asked : goal.returns-in-More-clause-asked
returns-in-More-clause-asked g c a asked = asked_still a c.args.spm c.step.new.spm c.step.ensures.manager asked

pub returns-in-Done-clause-content : goal.returns-in-Done-clause-content
returns-in-Done-clause-content g c up d tells =
    let call = c.in-Done.ensures.content d tells in (
      call.0,
      call.1,
      recover_done c.recoveries_are_turns.ensures c.args.host up c.args.spm c.args.recovery (g.D.SharedDisk.faults c.step.new.disk) d call.0 c.step.new.spm c.in-Done.count
          c.step.ensures.manager call.2,
    )

pub returns-in-Done-clause-asked : goal.returns-in-Done-clause-asked
returns-in-Done-clause-asked g c a asked = asked_still a c.args.spm c.step.new.spm c.step.ensures.manager asked

pub returns-in-Ended-clause-content : goal.returns-in-Ended-clause-content
returns-in-Ended-clause-content g c up d tells =
    let call = c.in-Ended.ensures.content d tells in (
      call.0,
      call.1,
      recover_ended c.recoveries_are_turns.ensures c.args.host up c.args.spm c.args.recovery (g.D.SharedDisk.faults c.step.new.disk) d call.0 c.step.new.spm c.in-Ended.refusal
          c.step.ensures.manager call.2,
    )
