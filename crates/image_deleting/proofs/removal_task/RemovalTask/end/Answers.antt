use Rattle.std.proofs.Common.{refl}
use Rattle.sd_names.specs.declared.turn.Turn.TheVariants.{More, Done, Ended}
use Rattle.image_deleting.proofs.removal_task.RemovalTask.end.Goals as goal

pub returns-in-More-clause-call : goal.returns-in-More-clause-call
returns-in-More-clause-call g c d tells =
    let call = c.in-More.ensures.call d tells in
    (call.0, call.1, (More c.in-More.next, call.2, c.at.ensures))

pub returns-in-More-clause-steps : goal.returns-in-More-clause-steps
returns-in-More-clause-steps g c d tells =
    let leaves = c.in-More.ensures.content d tells in
    (leaves.0, leaves.1, λ knows. (More c.in-More.next, leaves.2 knows, c.in-More.ensures.keeps.0, c.at.ensures))

pub returns-in-Done-clause-call : goal.returns-in-Done-clause-call
returns-in-Done-clause-call g c d tells =
    let call = c.in-Done.ensures.call d tells in
    (call.0, call.1, (Done tt, call.2, refl))

pub returns-in-Done-clause-steps : goal.returns-in-Done-clause-steps
returns-in-Done-clause-steps g c d tells =
    let leaves = c.in-Done.ensures.content d tells in
    (leaves.0, leaves.1, λ knows. (Done tt, leaves.2 knows, tt, refl))

pub returns-in-Ended-clause-call : goal.returns-in-Ended-clause-call
returns-in-Ended-clause-call g c d tells =
    let call = c.in-Ended.ensures.call d tells in
    (call.0, call.1, (Ended tt c.in-Ended.refusal, call.2, refl))

pub returns-in-Ended-clause-steps : goal.returns-in-Ended-clause-steps
returns-in-Ended-clause-steps g c d tells =
    let leaves = c.in-Ended.ensures.content d tells in
    (leaves.0, leaves.1, λ knows. (Ended tt c.in-Ended.refusal, leaves.2 knows, tt, refl))
