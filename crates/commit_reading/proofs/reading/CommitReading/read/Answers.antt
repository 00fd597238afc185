use Rattle.std.proofs.Common.{◌∙◌}
use Rattle.commit_reading.proofs.Steps.{reads_done, reads_ended, reads_more}
use Rattle.commit_reading.proofs.reading.CommitReading.read.Goals as goal

pub returns-in-More-clause-content : goal.returns-in-More-clause-content
returns-in-More-clause-content g c d tells =
    let t = c.in-More.ensures.content d tells in
    (t.0, t.1, reads_more c.args.self c.args.pieces c.args.read c.args.chain.now c.args.host c.args.piece.now c.step.new.part d t.0 c.with.result c.in-More.next c.with.ensures c.in-More.ensures.keeps t.2)

pub returns-in-Done-clause-content : goal.returns-in-Done-clause-content
returns-in-Done-clause-content g c d tells =
    let t = c.in-Done.ensures.content d tells in
    (t.0, t.1, reads_done c.args.self c.args.pieces c.args.read c.args.chain.now c.args.host c.args.piece.now c.step.new.part d t.0 _ (c.step.auto.part ∙ c.requires.piece) t.2)

pub returns-in-Ended-clause-content : goal.returns-in-Ended-clause-content
returns-in-Ended-clause-content g c d tells =
    let t = c.in-Ended.ensures.content d tells in
    (t.0, t.1, reads_ended c.args.self c.args.pieces c.args.read c.args.chain.now c.args.host c.args.piece.now c.step.new.part d t.0 _ _ c.in-Ended.refusal t.2)
