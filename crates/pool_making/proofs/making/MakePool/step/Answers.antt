use Rattle.std.proofs.Common.{sym, subst}
use Rattle.pool_making.proofs.StageFalls.{check_falls, list_falls}
use Rattle.pool_making.proofs.StageSteps.{check_step, clear_step, create_step, list_step, make_step, ready_in, search_step, sync_step, write_step}
use Rattle.pool_making.specs.Steps.{CallOf}
use Rattle.pool_making.specs.declared.making.Stage.{Stage}
use Rattle.pool_making.specs.declared.making.Stage.TheVariants.{Writing}
use Rattle.pool_making.proofs.making.MakePool.step.Goals as goal

pub returns-in-Listing-clause-falls : goal.returns-in-Listing-clause-falls
returns-in-Listing-clause-falls g c d tells =
    let call = c.list.ensures.content d tells in
    (call.0, call.1, list_falls c.in-Listing.after c.args.self _ c.list.result d call.0 c.in-Listing.is call.2.0 call.2.1 call.2.2)

pub returns-in-Listing-clause-content : goal.returns-in-Listing-clause-content
returns-in-Listing-clause-content g c d tells =
    let call = c.list.ensures.content d tells in
    (call.0, call.1, λ knows. list_step c.in-Listing.after c.args.self c.args.host _ c.list.result d call.0 (g.met.D.SharedDisk.well_formed c.args.disk.now d tells) c.list.ensures.id c.in-Listing.is knows call.2.0 call.2.1 call.2.2)

pub returns-in-Checking-clause-falls : goal.returns-in-Checking-clause-falls
returns-in-Checking-clause-falls g c d tells =
    let call = c.check.ensures.content d tells in
    (call.0, call.1, check_falls c.in-Checking.sd c.args.self _ c.check.result d call.0 c.in-Checking.is call.2.0 call.2.1 call.2.2)

pub returns-in-Checking-clause-content : goal.returns-in-Checking-clause-content
returns-in-Checking-clause-content g c d tells =
    let call = c.check.ensures.content d tells in
    (call.0, call.1, λ knows. check_step c.in-Checking.sd c.args.self c.args.host _ c.check.result d call.0 c.check.ensures.id c.in-Checking.is knows call.2.0 call.2.1 call.2.2)

pub returns-in-Searching-clause-content : goal.returns-in-Searching-clause-content
returns-in-Searching-clause-content g c d tells =
    let call = c.search.ensures.content d tells in
    (call.0, call.1, λ knows. search_step c.args.self c.args.host _ c.search.result d call.0 (g.met.D.SharedDisk.well_formed c.args.disk.now d tells) c.in-Searching.is knows call.2.0 call.2.1 call.2.2)

pub returns-in-Making-clause-content : goal.returns-in-Making-clause-content
returns-in-Making-clause-content g c d tells =
    let call = c.make.ensures.content d tells in
    (call.0, call.1, λ knows. make_step c.in-Making.folder c.args.self c.args.host _ c.make.result d call.0 (g.met.D.SharedDisk.well_formed c.args.disk.now d tells) c.in-Making.is knows call.2.0 call.2.1 call.2.2)

pub returns-in-Clearing-clause-content : goal.returns-in-Clearing-clause-content
returns-in-Clearing-clause-content g c d tells =
    let call = c.clear.ensures.content d tells in
    (call.0, call.1, λ knows. clear_step c.in-Clearing.area c.args.self c.args.host _ c.clear.result d call.0 c.in-Clearing.is knows call.2.0 call.2.1 call.2.2)

pub returns-in-Creating-clause-content : goal.returns-in-Creating-clause-content
returns-in-Creating-clause-content g c d tells =
    let call = c.create.ensures.content d tells in
    (call.0, call.1, λ knows. create_step c.in-Creating.area c.args.self c.args.host _ c.create.result d call.0 c.in-Creating.is knows call.2.0 call.2.1 call.2.2)

pub returns-in-Syncing-clause-content : goal.returns-in-Syncing-clause-content
returns-in-Syncing-clause-content g c d tells =
    let call = c.sync.ensures.content d tells in
    (call.0, call.1, λ knows. sync_step c.in-Syncing.area c.args.self c.args.host _ c.sync.result d call.0 c.in-Syncing.is knows call.2.0 call.2.1 call.2.2)

pub returns-in-Writing-clause-call : goal.returns-in-Writing-clause-call
returns-in-Writing-clause-call g c d tells =
    let call = c.write.ensures.content d tells in
    (call.0, call.1, subst (λ (s : Stage). CallOf s c.args.self c.args.host (g.D.SharedDisk.faults c.write.new.disk) c.write.result d call.0) (sym c.in-Writing.is) call.2)

pub returns-in-Writing-clause-content : goal.returns-in-Writing-clause-content
returns-in-Writing-clause-content g c d tells =
    let call = c.write.ensures.steps d tells in (
      call.0,
      call.1,
      λ knows. let known = ready_in (Writing c.in-Writing.replace) c.args.self c.args.host d c.in-Writing.is knows in
          write_step c.in-Writing.replace c.args.self c.args.host _ c.write.result d call.0 c.in-Writing.is known (call.2 known.replace),
    )
