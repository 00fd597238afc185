use Rattle.sd_names.specs.declared.turn.Turn.TheVariants.{More, Done, Ended}
use Rattle.chain_settling.proofs.Writes.{writing_settles}
use Rattle.chain_settling.proofs.texts.step_writing.Goals as goal

pub returns-in-More-clause-content : goal.returns-in-More-clause-content
returns-in-More-clause-content g c d tells =
    let call = c.in-More.ensures.content d tells in
    (call.0, call.1, writing_settles c.args.chain c.args.part c.args.at c.args.write c.args.host _ (More c.in-More.next) d call.0 c.in-More.ensures.keeps.0 call.2)

pub returns-in-Done-clause-content : goal.returns-in-Done-clause-content
returns-in-Done-clause-content g c d tells =
    let call = c.in-Done.ensures.content d tells in
    (call.0, call.1, writing_settles c.args.chain c.args.part c.args.at c.args.write c.args.host _ (Done tt) d call.0 tt call.2)

pub returns-in-Ended-clause-content : goal.returns-in-Ended-clause-content
returns-in-Ended-clause-content g c d tells =
    let call = c.in-Ended.ensures.content d tells in
    (call.0, call.1, writing_settles c.args.chain c.args.part c.args.at c.args.write c.args.host _ (Ended tt c.in-Ended.refusal) d call.0 tt call.2)
