use Rattle.std.proofs.Common.{refl}
use Rattle.sd_names.specs.declared.turn.Turn.TheVariants.{More, Done, Ended}
use Rattle.task_settling.proofs.Told.{both_told}
use Rattle.task_settling.proofs.settling.TaskSettling.write.Goals as goal

pub returns-in-More-clause-steps : goal.returns-in-More-clause-steps
returns-in-More-clause-steps g c d tells =
    let call = both_told _ _ _ _ c.in-More.ensures.call c.in-More.ensures.content d tells in
    (call.0, call.1, (More c.in-More.next, call.2.0, call.2.1, c.in-More.ensures.keeps.0, record { master_is = refl; task_is = refl; settled_is = refl; now_in = refl }))

pub returns-in-Done-clause-steps : goal.returns-in-Done-clause-steps
returns-in-Done-clause-steps g c d tells =
    let call = both_told _ _ _ _ c.in-Done.ensures.call c.in-Done.ensures.content d tells in
    (call.0, call.1, (Done tt, call.2.0, call.2.1, tt, refl))

pub returns-in-Ended-clause-steps : goal.returns-in-Ended-clause-steps
returns-in-Ended-clause-steps g c d tells =
    let call = both_told _ _ _ _ c.in-Ended.ensures.call c.in-Ended.ensures.content d tells in
    (call.0, call.1, (Ended tt c.in-Ended.refusal, call.2.0, call.2.1, tt, refl))
