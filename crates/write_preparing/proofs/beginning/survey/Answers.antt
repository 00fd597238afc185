use Rattle.write_preparing.proofs.Looked.{surveys_done, surveys_ended, surveys_more}
use Rattle.write_preparing.proofs.beginning.survey.Goals as goal

pub returns-in-More-clause-content : goal.returns-in-More-clause-content
returns-in-More-clause-content g c d tells =
    let call = c.in-More.ensures.content d tells in (
      call.0,
      call.1,
      λ l x f there k. rw c.in-More.ensures.layer (surveys_more c.args.work c.args.layer.now l x c.args.host _ f d call.0 there k c.in-More.next c.in-More.ensures.falls.0 call.2),
    )

pub returns-in-Done-clause-content : goal.returns-in-Done-clause-content
returns-in-Done-clause-content g c d tells =
    let call = c.in-Done.ensures.content d tells in (
      call.0,
      call.1,
      λ l x f there k.
          rw c.in-Done.ensures.layer (surveys_done c.args.work c.args.layer.now l x c.args.host _ f d call.0 there k c.in-Done.plan c.asking_of.result c.in-Done.ensures.all.0 c.in-Done.ensures.all.1 c.asking_of.ensures call.2),
    )

pub returns-in-Ended-clause-content : goal.returns-in-Ended-clause-content
returns-in-Ended-clause-content g c d tells =
    let call = c.in-Ended.ensures.content d tells in (
      call.0,
      call.1,
      λ l x f there k.
          rw c.in-Ended.ensures.layer (surveys_ended c.args.work c.args.layer.now l x c.args.host _ f d call.0 there k _ c.in-Ended.refusal c.in-Ended.ensures.counts.cause call.2),
    )
