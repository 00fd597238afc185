use Rattle.part_survey.proofs.Going.{looked_on}
use Rattle.part_survey.proofs.survey.Survey.step.Goals as goal

pub returns-in-Done-clause-content : goal.returns-in-Done-clause-content
returns-in-Done-clause-content g c d tells =
    let call = c.in-Done.ensures.content d tells in (
      call.0,
      call.1,
      looked_on c.args.self c.with.result c.in-Done.looked c.after.result c.args.layer.now c.args.host d call.0 call.2 c.after.ensures c.with.ensures.span c.with.ensures.next c.with.ensures.here c.with.ensures.others,
    )
