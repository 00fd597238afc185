use Rattle.std.proofs.Common.{refl}
use Rattle.sd_names.specs.declared.turn.Turn.TheVariants.{More, Done, Ended}
use Rattle.cluster_filling.proofs.filling.Filling.read.Goals as goal

pub returns-in-More-clause-content : goal.returns-in-More-clause-content
returns-in-More-clause-content g c d tells =
    let t = c.in-More.ensures.content d tells in
    (t.0, t.1, (c.step.auto.part, (More c.in-More.next, c.in-More.ensures.keeps, t.2, c.at.ensures)))

pub returns-in-Done-clause-content : goal.returns-in-Done-clause-content
returns-in-Done-clause-content g c d tells =
    let t = c.in-Done.ensures.content d tells in
    (t.0, t.1, (c.step.auto.part, (Done c.in-Done.field-0, tt, t.2, c.at-in-Done.ensures)))

pub returns-in-Ended-clause-content : goal.returns-in-Ended-clause-content
returns-in-Ended-clause-content g c d tells =
    let t = c.in-Ended.ensures.content d tells in
    (t.0, t.1, (c.step.auto.part, (Ended c.in-Ended.field-0 c.in-Ended.refusal, tt, t.2, refl)))
