use Rattle.std.proofs.Common.{refl}
use Rattle.sd_names.specs.declared.turn.Turn.TheVariants.{More, Done, Ended}
use Rattle.volume_texts.proofs.Steps.{write_step}
use Rattle.volume_texts.proofs.write.TextWrite.step.Goals as goal

pub returns-in-More-clause-content : goal.returns-in-More-clause-content
returns-in-More-clause-content g c d tells =
    let steps = c.in-More.ensures.content d tells in
    (steps.0, steps.1, write_step c.args.self c.args.host _ c.args.says.now (More (record { replace = c.in-More.replace; version = c.args.self.version; apart = _ })) _ d steps.0 c.write_into-length.ensures.text refl steps.2)

pub returns-in-Done-clause-content : goal.returns-in-Done-clause-content
returns-in-Done-clause-content g c d tells =
    let steps = c.in-Done.ensures.content d tells in
    (steps.0, steps.1, write_step c.args.self c.args.host _ c.args.says.now (Done tt) _ d steps.0 c.write_into-length.ensures.text refl steps.2)

pub returns-in-Ended-clause-content : goal.returns-in-Ended-clause-content
returns-in-Ended-clause-content g c d tells =
    let steps = c.in-Ended.ensures.content d tells in
    (steps.0, steps.1, write_step c.args.self c.args.host _ c.args.says.now (Ended tt c.in-Ended.refusal) _ d steps.0 c.write_into-length.ensures.text refl steps.2)
