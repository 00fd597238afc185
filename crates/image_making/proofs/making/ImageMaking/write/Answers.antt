use Rattle.std.proofs.Common.{refl}
use Rattle.sd_names.specs.declared.turn.Turn.TheVariants.{More, Done, Ended}
use Rattle.image_making.proofs.TextSteps.{steps, writes}
use Rattle.image_making.proofs.making.ImageMaking.write.Goals as goal

pub returns-in-More-clause-content : goal.returns-in-More-clause-content
returns-in-More-clause-content g c d tells =
    let call = c.in-More.ensures.call d tells in
    (call.0, call.1, writes c.args.self c.args.replace c.args.host _ _ (More c.in-More.next) (More c.at.result) d call.0 c.write_into-length.ensures.text call.2 c.at.ensures)

pub returns-in-More-clause-steps : goal.returns-in-More-clause-steps
returns-in-More-clause-steps g c d tells =
    let call = c.in-More.ensures.call d tells in
    let leaves = c.in-More.ensures.content d tells in (
      leaves.0,
      leaves.1,
      steps c.args.self c.args.replace c.args.host _ _ (More c.in-More.next) (More c.at.result) d leaves.0 call.0 _ c.write_into-length.ensures.text leaves.2 leaves.1 call.2 call.1
          c.in-More.ensures.keeps.0 c.at.ensures,
    )

pub returns-in-Done-clause-content : goal.returns-in-Done-clause-content
returns-in-Done-clause-content g c d tells =
    let call = c.in-Done.ensures.call d tells in
    (call.0, call.1, writes c.args.self c.args.replace c.args.host _ _ (Done tt) (Done tt) d call.0 c.write_into-length.ensures.text call.2 refl)

pub returns-in-Done-clause-steps : goal.returns-in-Done-clause-steps
returns-in-Done-clause-steps g c d tells =
    let call = c.in-Done.ensures.call d tells in
    let leaves = c.in-Done.ensures.content d tells in (
      leaves.0,
      leaves.1,
      steps c.args.self c.args.replace c.args.host _ _ (Done tt) (Done tt) d leaves.0 call.0 _ c.write_into-length.ensures.text leaves.2 leaves.1 call.2 call.1 tt refl,
    )

pub returns-in-Ended-clause-content : goal.returns-in-Ended-clause-content
returns-in-Ended-clause-content g c d tells =
    let call = c.in-Ended.ensures.call d tells in
    (call.0, call.1, writes c.args.self c.args.replace c.args.host _ _ (Ended tt c.in-Ended.refusal) (Ended tt c.in-Ended.refusal) d call.0 c.write_into-length.ensures.text call.2 refl)

pub returns-in-Ended-clause-steps : goal.returns-in-Ended-clause-steps
returns-in-Ended-clause-steps g c d tells =
    let call = c.in-Ended.ensures.call d tells in
    let leaves = c.in-Ended.ensures.content d tells in (
      leaves.0,
      leaves.1,
      steps c.args.self c.args.replace c.args.host _ _ (Ended tt c.in-Ended.refusal) (Ended tt c.in-Ended.refusal) d leaves.0 call.0 _ c.write_into-length.ensures.text leaves.2 leaves.1 call.2 call.1 tt refl,
    )
