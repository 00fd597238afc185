use Rattle.chain_gathering.proofs.Steps.{list_step, read_step, sync_step}
use Rattle.chain_gathering.proofs.gathering.Gathering.step.Goals as goal

pub returns-in-Listing-clause-content : goal.returns-in-Listing-clause-content
returns-in-Listing-clause-content g c d tells =
    let call = c.list.ensures.content d tells in
    (call.0, call.1, list_step c.args.self c.args.host _ c.in-Listing.seen c.list.result d call.0 c.in-Listing.is call.2)

pub returns-in-Syncing-clause-content : goal.returns-in-Syncing-clause-content
returns-in-Syncing-clause-content g c d tells =
    let call = c.sync.ensures.content d tells in
    (call.0, call.1, sync_step c.args.self c.args.host _ c.in-Syncing.seen c.in-Syncing.file c.sync.result d call.0 c.in-Syncing.is call.2)

pub returns-in-Reading-clause-content : goal.returns-in-Reading-clause-content
returns-in-Reading-clause-content g c d tells =
    let call = c.read.ensures.content d tells in
    (call.0, call.1, read_step c.args.self c.args.host _ c.read.result d call.0 c.in-Reading.is call.2)
