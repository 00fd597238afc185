use Rattle.std.proofs.Common.{refl}
use Rattle.sd_names.specs.declared.turn.Turn.TheVariants.{More, Done, Ended}
use Rattle.image_making.proofs.FileSteps.{went_on}
use Rattle.image_making.proofs.making.ImageMaking.layer.Goals as goal

pub returns-in-More-clause-content : goal.returns-in-More-clause-content
returns-in-More-clause-content g c d tells =
    let call = c.in-More.ensures.call d tells in
    (call.0, call.1, (More c.in-More.next, call.2, c.at.ensures))

pub returns-in-More-clause-steps : goal.returns-in-More-clause-steps
returns-in-More-clause-steps g c d tells =
    let leaves = c.in-More.ensures.content d tells in
    (leaves.0, leaves.1, λ knows. (More c.in-More.next, leaves.2 knows, (c.in-More.ensures.falls.0, went_on c.args.creating c.in-More.next c.in-More.ensures.falls.1), c.at.ensures))

pub returns-in-Done-clause-content : goal.returns-in-Done-clause-content
returns-in-Done-clause-content g c d tells =
    let call = c.in-Done.ensures.call d tells in
    (call.0, call.1, (Done tt, call.2, c.behind_file.ensures.file))

pub returns-in-Done-clause-steps : goal.returns-in-Done-clause-steps
returns-in-Done-clause-steps g c d tells =
    let leaves = c.in-Done.ensures.content d tells in
    (leaves.0, leaves.1, λ knows. (Done tt, leaves.2 knows, tt, c.behind_file.ensures.file))

pub returns-in-Ended-clause-content : goal.returns-in-Ended-clause-content
returns-in-Ended-clause-content g c d tells =
    let call = c.in-Ended.ensures.call d tells in
    (call.0, call.1, (Ended tt c.in-Ended.refusal, call.2, refl))

pub returns-in-Ended-clause-steps : goal.returns-in-Ended-clause-steps
returns-in-Ended-clause-steps g c d tells =
    let leaves = c.in-Ended.ensures.content d tells in
    (leaves.0, leaves.1, λ knows. (Ended tt c.in-Ended.refusal, leaves.2 knows, tt, refl))
