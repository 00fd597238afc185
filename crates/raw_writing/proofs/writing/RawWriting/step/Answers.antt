use Rattle.sd_names.specs.declared.turn.Turn.TheVariants.{More, Done, Ended}
use Rattle.raw_writing.proofs.Steps.{leaves}
use Rattle.raw_writing.proofs.writing.RawWriting.step.Goals as goal

pub returns-in-More-clause-content : goal.returns-in-More-clause-content
returns-in-More-clause-content g c d tells =
    let call = c.in-More.ensures.content d tells in
    (call.0, call.1, λ chain l x start k same. leaves c.args.self chain l x c.args.host _ start d call.0 k (More c.in-More.write) _ same c.requires.piece call.2)

pub returns-in-Done-clause-content : goal.returns-in-Done-clause-content
returns-in-Done-clause-content g c d tells =
    let call = c.in-Done.ensures.content d tells in
    (call.0, call.1, λ chain l x start k same. leaves c.args.self chain l x c.args.host _ start d call.0 k (Done tt) _ same c.requires.piece call.2)

pub returns-in-Ended-clause-content : goal.returns-in-Ended-clause-content
returns-in-Ended-clause-content g c d tells =
    let call = c.in-Ended.ensures.content d tells in
    (call.0, call.1, λ chain l x start k same. leaves c.args.self chain l x c.args.host _ start d call.0 k (Ended tt c.in-Ended.refusal) _ same c.requires.piece call.2)
