use Rattle.settling_steps.proofs.Tidy.{list_step, remove_step}
use Rattle.settling_steps.proofs.leftovers.Tidying.step.Goals as goal

pub returns-in-Listing-clause-content : goal.returns-in-Listing-clause-content
returns-in-Listing-clause-content g c d tells =
    let call = c.list.ensures.content d tells in
    (call.0, call.1, list_step c.args.self c.in-Listing.after _ c.list.result d call.0 c.in-Listing.is call.2)

pub returns-in-Removing-clause-content : goal.returns-in-Removing-clause-content
returns-in-Removing-clause-content g c d tells =
    let call = c.remove.ensures.content d tells in
    (call.0, call.1, remove_step c.args.self c.in-Removing.temporary _ c.remove.result d call.0 c.in-Removing.is call.2)
