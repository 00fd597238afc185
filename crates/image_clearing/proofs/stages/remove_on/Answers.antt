use Rattle.sd_names.specs.declared.turn.Turn.TheVariants.{More}
use Rattle.image_removing.specs.Falls.{Costs}
use Rattle.image_clearing.proofs.stages.remove_on.Goals as goal

pub returns-in-More-clause-steps : goal.returns-in-More-clause-steps
returns-in-More-clause-steps g c d tells =
    let call = c.in-More.ensures.content d tells in
    let none : Costs = λ pass after. 0 in
    let nearer = c.in-More.ensures.falls none in
    (call.0, call.1, (More c.in-More.next, call.2, (nearer.domain, nearer.image_is), c.at.ensures))
