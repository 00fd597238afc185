use Rattle.std.proofs.Common.{refl}
use Rattle.layer_creating.specs.declared.creating.Made.TheVariants.{Counted, Headed, Named, Tabled}
use Rattle.layer_creating.proofs.Stages.{alone_step, block_step, in_stage, name_step, named_step, table_step}
use Rattle.layer_creating.proofs.Steps.{create_step, sync_step, written}
use Rattle.layer_creating.proofs.creating.Creating.step.Goals as goal

pub returns-in-Begun-clause-content : goal.returns-in-Begun-clause-content
returns-in-Begun-clause-content g c d tells =
    let call = c.create.ensures.content d tells in
    (call.0, call.1, λ knows. create_step c.args.self c.args.host _ _ d call.0 c.in-Begun.is call.2)

pub returns-in-Created-clause-content : goal.returns-in-Created-clause-content
returns-in-Created-clause-content g c d tells =
    let call = c.write.ensures.content d tells in
    (call.0, call.1, λ knows. block_step c.args.self c.args.host _ _ d call.0 c.args.self.least c.in-Created.is knows (written c.args.self c.args.host 256 _ Counted _ _ d call.0 _ c.block_sector.ensures call.2))

pub returns-in-Counted-clause-content : goal.returns-in-Counted-clause-content
returns-in-Counted-clause-content g c d tells =
    let call = c.write-in-Counted.ensures.content d tells in
    (call.0, call.1, λ knows. table_step c.args.self c.args.host _ _ d call.0 c.args.self.least c.in-Counted.is knows (written c.args.self c.args.host 128 _ Tabled _ _ d call.0 _ c.table_sector.ensures call.2))

pub returns-in-None-clause-content : goal.returns-in-None-clause-content
returns-in-None-clause-content g c d tells =
    let call = c.write_header.ensures.content d tells in
    (call.0, call.1, λ knows. alone_step c.args.self c.args.host _ _ d call.0 c.args.self.least c.in-Tabled.is c.in-None.is knows call.2)

pub returns-in-Some-clause-content : goal.returns-in-Some-clause-content
returns-in-Some-clause-content g c d tells =
    let call = c.write-in-Some.ensures.content d tells in
    (call.0, call.1, λ knows. name_step c.args.self c.args.host _ _ d call.0 c.args.self.least c.in-Some.backing c.in-Tabled.is c.in-Some.is knows (written c.args.self c.args.host 126 _ Named _ _ d call.0 _ (c.name_sector-sector.ensures c.in-Some.backing refl) call.2))

pub returns-in-Named-clause-content : goal.returns-in-Named-clause-content
returns-in-Named-clause-content g c d tells =
    let call = c.write_header-in-Named.ensures.content d tells in
    (call.0, call.1, λ knows. named_step c.args.self c.args.host _ _ d call.0 c.args.self.least c.in-Named.is knows call.2)

pub returns-in-Headed-clause-content : goal.returns-in-Headed-clause-content
returns-in-Headed-clause-content g c d tells =
    let call = c.sync.ensures.content d tells in
    (call.0, call.1, λ knows. sync_step c.args.self c.args.host _ _ d call.0 c.in-Headed.is (in_stage c.args.self Headed c.args.host d c.in-Headed.is knows) call.2)
