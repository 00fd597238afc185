use Rattle.layer_placing.proofs.placing.Placing.step.Goals as goal

pub returns-in-More-clause-content : goal.returns-in-More-clause-content
returns-in-More-clause-content g c d tells =
    let call = c.in-More.ensures.content d tells in (
      call.0,
      call.1,
      λ f there knows. let x = call.2 f there knows in record { now = x.now; put = x.put; comes = x.comes; after = x.after; spare = x.spare },
    )

pub returns-in-Done-clause-content : goal.returns-in-Done-clause-content
returns-in-Done-clause-content g c d tells =
    let call = c.in-Done.ensures.content d tells in (
      call.0,
      call.1,
      λ f there knows. let x = call.2 f there knows in record { now = x.now; put = x.put; comes = x.comes; after = x.after; spare = x.spare },
    )

pub returns-in-Ended-clause-content : goal.returns-in-Ended-clause-content
returns-in-Ended-clause-content g c d tells =
    let call = c.in-Ended.ensures.content d tells in (
      call.0,
      call.1,
      λ f there knows. let x = call.2 f there knows in record { now = x.now; put = x.put; comes = x.comes; after = x.after; spare = x.spare },
    )
