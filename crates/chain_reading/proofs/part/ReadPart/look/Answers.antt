use Rattle.chain_reading.proofs.Steps.{look_done, look_ended, look_more}
use Rattle.chain_reading.proofs.part.ReadPart.look.Goals as goal

pub returns-in-More-clause-content : goal.returns-in-More-clause-content
returns-in-More-clause-content g c d tells =
    let t = c.in-More.ensures.content d tells in
    (t.0, t.1, λ part. look_more c.args.self c.args.chain.now c.args.host c.args.looking part d t.0 c.in-More.further c.with-more.result t.2 c.with-more.ensures)

pub returns-in-Done-clause-content : goal.returns-in-Done-clause-content
returns-in-Done-clause-content g c d tells =
    let t = c.in-Done.ensures.content d tells in
    (t.0, t.1, λ part. look_done c.args.self c.args.chain.now c.args.host c.args.looking part d t.0 c.in-Done.looked c.with-found.result t.2 c.with-found.ensures)

pub returns-in-Ended-clause-content : goal.returns-in-Ended-clause-content
returns-in-Ended-clause-content g c d tells =
    let t = c.in-Ended.ensures.content d tells in
    (t.0, t.1, λ part. look_ended c.args.self c.args.chain.now c.args.host c.args.looking part d t.0 _ c.in-Ended.refusal t.2)
