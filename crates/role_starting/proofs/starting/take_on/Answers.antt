use Rattle.std.proofs.Common.{Some, sym, ap, subst, ◌∙◌}
use Rattle.sd_names.specs.declared.id.Id.{Id}
use Rattle.spm_role.specs.Spm.{tasks_of}
use Rattle.pool_recovering.specs.Knowing.{Knows as KnowsRecovery}
use Rattle.role_starting.proofs.Takes.{leads_of, take_done, take_ended, take_more}
use Rattle.role_starting.proofs.starting.take_on.Goals as goal

pub returns-in-More-clause-content : goal.returns-in-More-clause-content
returns-in-More-clause-content g c d tells =
    let call = c.in-More.ensures.content d tells in
    (call.0, call.1, take_more c.args.host c.args.up.now c.args.taking d call.0 c.in-More.next call.2)

pub returns-in-Done-clause-content : goal.returns-in-Done-clause-content
returns-in-Done-clause-content g c d tells =
    let call = c.in-Done.ensures.content d tells in (
      call.0,
      call.1,
      take_done c.args.host c.args.up.now c.args.taking d call.0 c.in-Done.spm c.begin-recovery.result
          (λ h e p managed.
          subst (λ (m : Id). KnowsRecovery h m (tasks_of c.in-Done.spm) c.begin-recovery.result e p) c.master.ensures
          (c.begin-recovery.ensures.knows h (tasks_of c.in-Done.spm) e p (managed.0.master ∙ ap (λ (m : Id). Some m) (sym c.master.ensures)) (leads_of h c.in-Done.spm p managed.0))) call.2,
    )

pub returns-in-Ended-clause-content : goal.returns-in-Ended-clause-content
returns-in-Ended-clause-content g c d tells =
    let call = c.in-Ended.ensures.content d tells in
    (call.0, call.1, take_ended c.args.host c.args.up.now c.args.taking d call.0 c.in-Ended.refusal call.2)
