use Rattle.sd_names.specs.declared.turn.Turn.TheVariants.{More, Done, Ended}
use Rattle.task_files.proofs.Steps.{write_step}
use Rattle.task_files.proofs.write.TaskWrite.step.Goals as goal

pub returns-in-More-clause-content : goal.returns-in-More-clause-content
returns-in-More-clause-content g c d tells =
    let call = c.in-More.ensures.call d tells in
    let steps = c.in-More.ensures.content d tells in
    (steps.0, steps.1, write_step c.args.self c.args.host _ c.args.task.now (More (record { replace = c.in-More.replace; apart = _ })) _ d steps.0 call.0 _ c.args.self.apart c.write_into-length.ensures.text call.1 call.2 steps.1 steps.2)

pub returns-in-Done-clause-content : goal.returns-in-Done-clause-content
returns-in-Done-clause-content g c d tells =
    let call = c.in-Done.ensures.call d tells in
    let steps = c.in-Done.ensures.content d tells in
    (steps.0, steps.1, write_step c.args.self c.args.host _ c.args.task.now (Done tt) _ d steps.0 call.0 _ c.args.self.apart c.write_into-length.ensures.text call.1 call.2 steps.1 steps.2)

pub returns-in-Ended-clause-content : goal.returns-in-Ended-clause-content
returns-in-Ended-clause-content g c d tells =
    let call = c.in-Ended.ensures.call d tells in
    let steps = c.in-Ended.ensures.content d tells in
    (steps.0, steps.1, write_step c.args.self c.args.host _ c.args.task.now (Ended tt c.in-Ended.refusal) _ d steps.0 call.0 _ c.args.self.apart c.write_into-length.ensures.text call.1 call.2 steps.1 steps.2)
