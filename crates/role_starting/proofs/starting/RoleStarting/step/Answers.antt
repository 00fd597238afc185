use Rattle.std.proofs.Common.{sym, subst}
use Rattle.role_starting.specs.Starting.{IsAsked}
use Rattle.role_starting.specs.Steps.{StartsRole}
use Rattle.role_starting.specs.declared.starting.RoleStarting.{RoleStarting}
use Rattle.role_starting.proofs.starting.RoleStarting.step.Goals as goal

pub returns-in-Recovering-clause-content : goal.returns-in-Recovering-clause-content
returns-in-Recovering-clause-content g c d tells =
    let call = c.recover_on.ensures.content c.args.up.now d tells in
    (call.0, call.1, subst (λ (s : RoleStarting). StartsRole c.args.host c.args.up.now s c.recover_on.result d call.0) (sym c.in-Recovering.is) call.2)

pub returns-in-Taking-clause-asked : goal.returns-in-Taking-clause-asked
returns-in-Taking-clause-asked g c a asked = c.take_on.ensures.asked a (subst (λ (s : RoleStarting). IsAsked a s) c.in-Taking.is asked)
