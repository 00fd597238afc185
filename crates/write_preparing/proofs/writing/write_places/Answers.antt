use Rattle.write_preparing.proofs.Places.{writes_done, writes_ended, writes_more}
use Rattle.write_preparing.proofs.writing.write_places.Goals as goal

pub returns-in-More-clause-content : goal.returns-in-More-clause-content
returns-in-More-clause-content g c d tells =
    let call = c.in-More.ensures.content d tells in (
      call.0,
      call.1,
      λ l x f there k same.
          writes_more c.args.placed c.args.work c.args.layer.now l x c.args.host _ f d call.0 k c.in-More.next c.in-More.ensures.falls.0 (call.2 l x f there k.places same),
    )

pub returns-in-Done-clause-content : goal.returns-in-Done-clause-content
returns-in-Done-clause-content g c d tells =
    let call = c.in-Done.ensures.content d tells in (
      call.0,
      call.1,
      λ l x f there k same. writes_done c.args.placed c.args.work c.args.layer.now l x c.args.host _ f d call.0 k (call.2 l x f there k.places same),
    )

pub returns-in-Ended-clause-content : goal.returns-in-Ended-clause-content
returns-in-Ended-clause-content g c d tells =
    let call = c.in-Ended.ensures.content d tells in (
      call.0,
      call.1,
      λ l x f there k same. writes_ended c.args.placed c.args.work c.args.layer.now l x c.args.host _ f d call.0 k c.in-Ended.refusal (call.2 l x f there k.places same),
    )
