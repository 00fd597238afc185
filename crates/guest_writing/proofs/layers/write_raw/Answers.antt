use Rattle.guest_writing.proofs.Raws.{goes_on, is_done, leaves, refuses}
use Rattle.guest_writing.proofs.layers.write_raw.Goals as goal

pub returns-in-More-clause-content : goal.returns-in-More-clause-content
returns-in-More-clause-content g c d tells =
    let call = c.in-More.ensures.content d tells in (
      call.0,
      call.1,
      λ volume at chain room l x old start of k same.
          let one = call.2 chain l x start k.write same in
          record { leaves = leaves c.args.work chain l x c.args.host _ start d call.0 k _ one; after = goes_on c.args.work chain l x c.args.host _ start d call.0 k _ one c.in-More.next one.after },
    )

pub returns-in-Done-clause-content : goal.returns-in-Done-clause-content
returns-in-Done-clause-content g c d tells =
    let call = c.in-Done.ensures.content d tells in (
      call.0,
      call.1,
      λ volume at chain room l x old start of k same.
          let one = call.2 chain l x start k.write same in
          record { leaves = leaves c.args.work chain l x c.args.host _ start d call.0 k _ one; after = is_done c.args.work chain l x c.args.host _ start d call.0 k _ one one.after },
    )

pub returns-in-Ended-clause-content : goal.returns-in-Ended-clause-content
returns-in-Ended-clause-content g c d tells =
    let call = c.in-Ended.ensures.content d tells in (
      call.0,
      call.1,
      λ volume at chain room l x old start of k same.
          let one = call.2 chain l x start k.write same in
          record {
            leaves = leaves c.args.work chain l x c.args.host _ start d call.0 k _ one;
            after = refuses c.args.work chain l x c.args.host _ start d call.0 k _ one c.in-Ended.refusal _ c.in-Ended.ensures.refusals one.after;
          },
    )
