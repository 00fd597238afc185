use Rattle.layer_placing.proofs.Dispatch.{in_stage}
use Rattle.layer_placing.proofs.placing.step_stage.Goals as goal

pub returns-in-Begun-clause-content : goal.returns-in-Begun-clause-content
returns-in-Begun-clause-content g c d tells =
    let call = c.begin.ensures.content d tells in (
      call.0,
      call.1,
      λ f there knows. in_stage c.args.layer.now c.args.layer.now c.args.host (g.D.SharedDisk.faults c.begin.new.disk) c.begin.result f d call.0 c.args.stage _ c.in-Begun.is (call.2 f there) knows,
    )

pub returns-in-Finding-clause-content : goal.returns-in-Finding-clause-content
returns-in-Finding-clause-content g c d tells =
    let call = c.find_block.ensures.content d tells in (
      call.0,
      call.1,
      λ f there knows. in_stage c.args.layer.now c.args.layer.now c.args.host (g.D.SharedDisk.faults c.find_block.new.disk) c.find_block.result f d call.0 c.args.stage _ c.in-Finding.is (call.2 f there) knows,
    )

pub returns-in-Counting-clause-content : goal.returns-in-Counting-clause-content
returns-in-Counting-clause-content g c d tells =
    let call = c.read_counts.ensures.content d tells in (
      call.0,
      call.1,
      λ f there knows. in_stage c.args.layer.now c.args.layer.now c.args.host (g.D.SharedDisk.faults c.read_counts.new.disk) c.read_counts.result f d call.0 c.args.stage _ c.in-Counting.is (call.2 f there) knows,
    )

pub returns-in-Raising-clause-content : goal.returns-in-Raising-clause-content
returns-in-Raising-clause-content g c d tells =
    let call = c.raise_counts.ensures.content d tells in (
      call.0,
      call.1,
      λ f there knows. in_stage c.args.layer.now c.raise_counts.new.layer c.args.host (g.D.SharedDisk.faults c.raise_counts.new.disk) c.raise_counts.result f d call.0 c.args.stage _ c.in-Raising.is (call.2 f there) knows,
    )

pub returns-in-Zeroing-clause-content : goal.returns-in-Zeroing-clause-content
returns-in-Zeroing-clause-content g c d tells =
    let call = c.write_piece.ensures.content d tells in (
      call.0,
      call.1,
      λ f there knows. in_stage c.args.layer.now c.args.layer.now c.args.host (g.D.SharedDisk.faults c.write_piece.new.disk) c.write_piece.result f d call.0 c.args.stage _ c.in-Zeroing.is (call.2 f there) knows,
    )

pub returns-in-Zeroed-clause-content : goal.returns-in-Zeroed-clause-content
returns-in-Zeroed-clause-content g c d tells =
    let call = c.settle.ensures.content d tells in (
      call.0,
      call.1,
      λ f there knows. in_stage c.args.layer.now c.args.layer.now c.args.host (g.D.SharedDisk.faults c.settle.new.disk) c.settle.result f d call.0 c.args.stage _ c.in-Zeroed.is (call.2 f there) knows,
    )

pub returns-in-Settled-clause-content : goal.returns-in-Settled-clause-content
returns-in-Settled-clause-content g c d tells =
    let call = c.enter.ensures.content d tells in (
      call.0,
      call.1,
      λ f there knows. in_stage c.args.layer.now c.args.layer.now c.args.host (g.D.SharedDisk.faults c.enter.new.disk) c.enter.result f d call.0 c.args.stage _ c.in-Settled.is (call.2 f there) knows,
    )

pub returns-in-Entered-clause-content : goal.returns-in-Entered-clause-content
returns-in-Entered-clause-content g c d tells =
    let call = c.settle_entry.ensures.content d tells in (
      call.0,
      call.1,
      λ f there knows. in_stage c.args.layer.now c.args.layer.now c.args.host (g.D.SharedDisk.faults c.settle_entry.new.disk) c.settle_entry.result f d call.0 c.args.stage _ c.in-Entered.is (call.2 f there) knows,
    )
