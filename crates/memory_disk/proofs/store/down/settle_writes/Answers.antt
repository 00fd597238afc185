use Rattle.std.proofs.Common.{arith}
use Rattle.memory_disk.proofs.Settling.{settling_more}
use Rattle.memory_disk.proofs.Turning.{taken_more}
use Rattle.memory_disk.proofs.store.down.settle_writes.Goals as goal

pub loop-i-preserved : goal.loop-i-preserved
loop-i-preserved c = record {
  at = settling_more c.args.host c.args.files.now.slots.items c.args.log.now c.args.stable.now c.loop-i.stable c.settle_first.new.stable c.loop-i.invariant.at c.settle_first.ensures.at;
  count = omega (arith, c.settle_first.ensures.count, c.loop-i.invariant.count);
  room = omega (arith, c.settle_first.ensures.room, c.loop-i.invariant.room);
  picks = taken_more _ _ _ c.loop-i.invariant.picks c.settle_first.ensures.picks;
}
