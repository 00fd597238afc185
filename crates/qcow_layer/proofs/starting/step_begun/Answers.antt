use Rattle.qcow_layer.proofs.Starts.{begun_short}
use Rattle.qcow_layer.proofs.starting.step_begun.Goals as goal

pub returns-then-length-lt512-clause-content : goal.returns-then-length-lt512-clause-content
returns-then-length-lt512-clause-content g c d tells =
    let call = c.in-Ok.ensures.call d tells in
    (call.0, call.1, begun_short c.args.target c.args.host c.in-Ok.length d call.0 call.2 c.if-length-lt512.true)
