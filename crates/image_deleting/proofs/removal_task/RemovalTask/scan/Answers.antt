use Rattle.std.proofs.Common.{refl}
use Rattle.sd_names.specs.declared.turn.Turn.TheVariants.{More, Done}
use Rattle.image_deleting.proofs.removal_task.RemovalTask.scan.Goals as goal

pub returns-in-More-clause-call : goal.returns-in-More-clause-call
returns-in-More-clause-call g c d tells =
    let call = c.in-More.ensures.content d tells in
    (call.0, call.1, (More c.in-More.next, _, _, refl, call.2, c.at.ensures))

pub returns-in-More-clause-steps : goal.returns-in-More-clause-steps
returns-in-More-clause-steps g c d tells =
    let call = c.in-More.ensures.content d tells in
    (call.0, call.1, (More c.in-More.next, _, _, refl, call.2, c.in-More.ensures.keeps.0, c.at.ensures))

pub returns-in-Done-clause-call : goal.returns-in-Done-clause-call
returns-in-Done-clause-call g c d tells =
    let call = c.in-Done.ensures.content d tells in
    (call.0, call.1, (Done c.in-Done.seen, _, _, refl, call.2, c.behind_scan.ensures.seen))

pub returns-in-Done-clause-steps : goal.returns-in-Done-clause-steps
returns-in-Done-clause-steps g c d tells =
    let call = c.in-Done.ensures.content d tells in
    (call.0, call.1, (Done c.in-Done.seen, _, _, refl, call.2, c.in-Done.ensures.eight, c.behind_scan.ensures.seen))
