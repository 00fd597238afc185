use Rattle.settling_steps.proofs.Long.{ask_leaves, grow_leaves}
use Rattle.settling_steps.proofs.lengthening.Lengthening.step.Goals as goal

pub returns-in-Asking-clause-content : goal.returns-in-Asking-clause-content
returns-in-Asking-clause-content g c d tells =
    let call = c.ask.ensures.content d tells in
    (call.0, call.1, rw c.in-Asking.is (ask_leaves c.args.layer.now c.args.host _ c.ask.result d call.0 call.2))

pub returns-in-Growing-clause-content : goal.returns-in-Growing-clause-content
returns-in-Growing-clause-content g c d tells =
    let call = c.grow.ensures.content d tells in
    (call.0, call.1, rw c.in-Growing.is (grow_leaves c.in-Growing.length c.args.layer.now c.args.host _ c.grow.result d call.0 (g.met.D.SharedDisk.well_formed c.args.disk.now d tells) call.2))
