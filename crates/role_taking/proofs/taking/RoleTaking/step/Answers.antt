use Rattle.std.proofs.Common.{sym, subst}
use Rattle.role_taking.specs.Taking.{TakesRole}
use Rattle.role_taking.specs.declared.taking.RoleTaking.{RoleTaking}
use Rattle.role_taking.proofs.taking.RoleTaking.step.Goals as goal

pub returns-in-Taken-clause-content : goal.returns-in-Taken-clause-content
returns-in-Taken-clause-content g c d tells =
    let call = c.list_behind.ensures.content c.args.up.now d tells in
    (call.0, call.1, subst (λ (t : RoleTaking). TakesRole c.args.host c.args.up.now t c.list_behind.result d call.0) (sym c.in-Taken.is) call.2)
