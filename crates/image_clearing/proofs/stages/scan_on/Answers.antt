use Rattle.std.proofs.Common.{refl}
use Rattle.sd_names.specs.declared.turn.Turn.TheVariants.{More, Done}
use Rattle.image_clearing.proofs.stages.scan_on.Goals as goal

pub returns-in-More-clause-steps : goal.returns-in-More-clause-steps
returns-in-More-clause-steps g c d tells =
    let call = c.in-More.ensures.content d tells in
    (call.0, call.1, (More c.in-More.next, _, _, refl, call.2, c.in-More.ensures.keeps, c.at.ensures))

pub returns-in-Done-clause-steps : goal.returns-in-Done-clause-steps
returns-in-Done-clause-steps g c d tells =
    let call = c.in-Done.ensures.content d tells in
    (call.0, call.1, (Done c.in-Done.seen, _, _, refl, call.2, c.in-Done.ensures.eight, c.behind_scan.ensures.seen))
