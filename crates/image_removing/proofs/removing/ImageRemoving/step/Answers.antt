use Rattle.image_removing.proofs.Leaves.{end_leaves, in_stage, list_leaves, move_leaves, remove_leaves}
use Rattle.image_removing.specs.declared.removing.Stage.TheVariants.{Listing, Removing, Ending, Moving}
use Rattle.image_removing.proofs.removing.ImageRemoving.step.Goals as goal

pub returns-in-Listing-clause-content : goal.returns-in-Listing-clause-content
returns-in-Listing-clause-content g c d tells =
    let call = c.list.ensures.content d tells in (
      call.0,
      call.1,
      in_stage (Listing c.in-Listing.pass c.in-Listing.after) c.args.self _ c.list.result d call.0 c.in-Listing.is
          (list_leaves c.args.self c.in-Listing.pass c.in-Listing.after _ c.list.result d call.0 call.2),
    )

pub returns-in-Removing-clause-content : goal.returns-in-Removing-clause-content
returns-in-Removing-clause-content g c d tells =
    let call = c.remove.ensures.content d tells in (
      call.0,
      call.1,
      in_stage (Removing c.in-Removing.pass c.in-Removing.name) c.args.self _ c.remove.result d call.0 c.in-Removing.is
          (remove_leaves c.args.self c.in-Removing.pass c.in-Removing.name _ c.remove.result d call.0 (g.met.D.SharedDisk.well_formed c.args.disk.now d tells) call.2),
    )

pub returns-in-Ending-clause-content : goal.returns-in-Ending-clause-content
returns-in-Ending-clause-content g c d tells =
    let call = c.end.ensures.content d tells in (
      call.0,
      call.1,
      in_stage (Ending c.in-Ending.pass) c.args.self _ c.end.result d call.0 c.in-Ending.is
          (end_leaves c.args.self c.in-Ending.pass _ c.end.result d call.0 call.2),
    )

pub returns-in-Moving-clause-content : goal.returns-in-Moving-clause-content
returns-in-Moving-clause-content g c d tells =
    let call = c.give_name.ensures.content d tells in
    (call.0, call.1, in_stage Moving c.args.self _ c.give_name.result d call.0 c.in-Moving.is (move_leaves c.args.self _ c.give_name.result d call.0 call.2))
