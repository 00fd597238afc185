use Rattle.qcow_layer.proofs.opening.Opening.step.Goals as goal

pub returns-in-More-clause-content : goal.returns-in-More-clause-content
returns-in-More-clause-content g c d tells =
    let call = c.in-More.ensures.content d tells in
    (call.0, call.1, record { same = call.2.same; gone = call.2.gone; after = call.2.after })
