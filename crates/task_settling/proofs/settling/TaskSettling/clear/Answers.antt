use Rattle.std.proofs.Common.{refl}
use Rattle.sd_names.specs.declared.turn.Turn.TheVariants.{More, Done, Ended}
use Rattle.image_removing.specs.Falls.{Costs}
use Rattle.task_settling.specs.Settling.{stage_of}
use Rattle.task_settling.proofs.Falls.{one_less}
use Rattle.task_settling.proofs.settling.TaskSettling.clear.Goals as goal

pub returns-in-More-clause-steps : goal.returns-in-More-clause-steps
returns-in-More-clause-steps g c d tells =
    let call = c.in-More.ensures.content d tells in
    let none : Costs = λ pass after. 0 in
    let nearer = c.in-More.ensures.falls none in
    (call.0, call.1, (More c.in-More.next, call.2, (nearer.domain, nearer.image_is), record { master_is = refl; task_is = refl; settled_is = refl; now_in = refl }))

pub returns-in-Ok-clause-steps : goal.returns-in-Ok-clause-steps
returns-in-Ok-clause-steps g c d tells =
    let call = c.in-Done.ensures.content d tells in
    (call.0, call.1, (Done tt, call.2, tt, (c.in-Ok.ensures.next, c.in-Ok.ensures.settled)))

pub returns-in-Ok-clause-falls : goal.returns-in-Ok-clause-falls
returns-in-Ok-clause-falls g c cost = record {
  task_is = c.in-Ok.ensures.next.task_is;
  settled_is = c.in-Ok.ensures.settled;
  falls = λ _. one_less cost c.args.master c.args.task _ c.args.count _ (stage_of c.in-Ok.next) c.requires.some (c.in-Done.ensures.falls cost) c.in-Ok.ensures.next.stage;
}

pub returns-in-Err-clause-steps : goal.returns-in-Err-clause-steps
returns-in-Err-clause-steps g c d tells =
    let call = c.in-Done.ensures.content d tells in
    (call.0, call.1, (Done tt, call.2, tt, c.in-Err.ensures.next))

pub returns-in-Ended-clause-steps : goal.returns-in-Ended-clause-steps
returns-in-Ended-clause-steps g c d tells =
    let call = c.in-Ended.ensures.content d tells in
    (call.0, call.1, (Ended tt c.in-Ended.refusal, call.2, tt, refl))
