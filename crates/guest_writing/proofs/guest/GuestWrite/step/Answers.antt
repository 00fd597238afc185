use Rattle.guest_writing.proofs.guest.GuestWrite.step.Goals as goal

pub returns-in-Done-clause-content : goal.returns-in-Done-clause-content
returns-in-Done-clause-content g c d tells =
    let call = c.in-Done.ensures.content d tells in
    (call.0, call.1, λ l x old start k same. let one = call.2 l x old start k.of k.stage same in record { leaves = one.leaves; after = one.after })
