use Rattle.std.proofs.Common.{length}
use Rattle.guest_writing.proofs.Dispatch.{falls_in, found_on, in_stage, nears_in}
use Rattle.guest_writing.proofs.guest.step_stage.Goals as goal

pub returns-in-Begun-clause-content : goal.returns-in-Begun-clause-content
returns-in-Begun-clause-content g c d tells = (
  d,
  tells,
  in_stage c.args.stage _ c.args.volume c.args.at c.args.chain.now c.args.chain.now c.args.host _ c.args.part.now c.args.room.now c.args.room.now _ d d c.in-Begun.is
      (found_on c.find.result c.args.volume c.args.at c.args.chain.now c.args.host _ c.args.part.now c.args.room.now d c.find.ensures.knows),
)

pub returns-in-Raw-clause-falls : goal.returns-in-Raw-clause-falls
returns-in-Raw-clause-falls g c = falls_in c.args.stage _ c.args.chain.now c.write_raw.result c.in-Raw.is (c.write_raw.ensures.falls c.args.chain.now)

pub returns-in-Raw-clause-content : goal.returns-in-Raw-clause-content
returns-in-Raw-clause-content g c d tells =
    let call = c.write_raw.ensures.content d tells in (
      call.0,
      call.1,
      in_stage c.args.stage _ c.args.volume c.args.at c.args.chain.now c.args.chain.now c.args.host _ c.args.part.now c.args.room.now c.args.room.now c.write_raw.result d call.0 c.in-Raw.is
          (call.2 c.args.volume c.args.at c.args.chain.now c.args.room.now),
    )

pub returns-in-Preparing-clause-content : goal.returns-in-Preparing-clause-content
returns-in-Preparing-clause-content g c d tells =
    let call = c.prepare_layer.ensures.content d tells in (
      call.0,
      call.1,
      in_stage c.args.stage _ c.args.volume c.args.at c.args.chain.now c.prepare_layer.new.chain c.args.host _ c.args.part.now c.args.room.now c.args.room.now c.prepare_layer.result d call.0 c.in-Preparing.is (call.2 c.args.room.now),
    )

pub returns-in-Filling-clause-content : goal.returns-in-Filling-clause-content
returns-in-Filling-clause-content g c d tells =
    let call = c.fill_layer.ensures.content d tells in (
      call.0,
      call.1,
      in_stage c.args.stage _ c.args.volume c.args.at c.args.chain.now c.fill_layer.new.chain c.args.host _ c.args.part.now c.args.room.now c.fill_layer.new.room c.fill_layer.result d call.0 c.in-Filling.is (call.2 c.args.volume c.args.at),
    )

pub returns-in-Linking-clause-content : goal.returns-in-Linking-clause-content
returns-in-Linking-clause-content g c d tells =
    let call = c.link_layer.ensures.content d tells in (
      call.0,
      call.1,
      in_stage c.args.stage _ c.args.volume c.args.at c.args.chain.now c.link_layer.new.chain c.args.host _ c.args.part.now c.args.room.now c.args.room.now c.link_layer.result d call.0 c.in-Linking.is
          (call.2 c.args.volume c.args.at c.args.part.now c.args.room.now),
    )

pub returns-in-Raw-clause-left : goal.returns-in-Raw-clause-left
returns-in-Raw-clause-left g c = nears_in c.args.stage _ c.args.volume c.args.at c.args.chain.now c.args.chain.now (length c.args.part.now) c.write_raw.result c.in-Raw.is (c.write_raw.ensures.left c.args.volume c.args.at (length c.args.part.now) c.args.chain.now)

pub returns-in-Filling-clause-left : goal.returns-in-Filling-clause-left
returns-in-Filling-clause-left g c = nears_in c.args.stage _ c.args.volume c.args.at c.args.chain.now c.fill_layer.new.chain (length c.args.part.now) c.fill_layer.result c.in-Filling.is (c.fill_layer.ensures.left c.args.volume c.args.at (length c.args.part.now))

pub returns-in-Linking-clause-left : goal.returns-in-Linking-clause-left
returns-in-Linking-clause-left g c = nears_in c.args.stage _ c.args.volume c.args.at c.args.chain.now c.link_layer.new.chain (length c.args.part.now) c.link_layer.result c.in-Linking.is (c.link_layer.ensures.left c.args.volume c.args.at (length c.args.part.now))
