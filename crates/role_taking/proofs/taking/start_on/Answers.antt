use Rattle.std.proofs.Common.{subst}
use Rattle.sd_names.specs.declared.turn.Turn.{Turn}
use Rattle.sd_names.specs.declared.turn.Turn.TheVariants.{Done, Ended, More}
use Rattle.spm_role.specs.Start.{StartsBy, stage_of}
use Rattle.spm_role.specs.declared.spm.Spm.{Spm}
use Rattle.spm_role.specs.declared.start.SpmStart.{SpmStart}
use Rattle.role_taking.proofs.Steps.{start_steps}
use Rattle.role_taking.proofs.taking.start_on.Goals as goal

pub returns-in-More-clause-content : goal.returns-in-More-clause-content
returns-in-More-clause-content g c d tells =
    let call = c.step.ensures.content d tells in (
      call.0,
      call.1,
      start_steps c.args.host c.args.up.now c.args.start (More c.in-More.next) (g.D.SharedDisk.faults c.step.new.disk) d call.0 c.bounds.ensures.host c.bounds.ensures.nobody
          c.args.start.owner c.args.start.version tt
          (subst (λ (t : Turn SpmStart Spm (Unit {0})). StartsBy (stage_of c.args.start) c.args.start c.args.host c.args.up.now (g.D.SharedDisk.faults c.step.new.disk) t d call.0) c.in-More.is call.2),
    )

pub returns-in-Done-clause-content : goal.returns-in-Done-clause-content
returns-in-Done-clause-content g c d tells =
    let call = c.step.ensures.content d tells in (
      call.0,
      call.1,
      start_steps c.args.host c.args.up.now c.args.start (Done c.in-Done.spm) (g.D.SharedDisk.faults c.step.new.disk) d call.0 c.bounds.ensures.host c.bounds.ensures.nobody
          c.args.start.owner c.args.start.version c.in-Done.ensures.manager
          (subst (λ (t : Turn SpmStart Spm (Unit {0})). StartsBy (stage_of c.args.start) c.args.start c.args.host c.args.up.now (g.D.SharedDisk.faults c.step.new.disk) t d call.0) c.in-Done.is call.2),
    )

pub returns-in-Ended-clause-content : goal.returns-in-Ended-clause-content
returns-in-Ended-clause-content g c d tells =
    let call = c.step.ensures.content d tells in (
      call.0,
      call.1,
      start_steps c.args.host c.args.up.now c.args.start (Ended c.in-Ended.field-0 c.in-Ended.refusal) (g.D.SharedDisk.faults c.step.new.disk) d call.0 c.bounds.ensures.host c.bounds.ensures.nobody
          c.args.start.owner c.args.start.version tt
          (subst (λ (t : Turn SpmStart Spm (Unit {0})). StartsBy (stage_of c.args.start) c.args.start c.args.host c.args.up.now (g.D.SharedDisk.faults c.step.new.disk) t d call.0) c.in-Ended.is call.2),
    )
