use Rattle.memory_disk.specs.Leaving.{is_leaving, left_of}
use Rattle.memory_disk.proofs.Leaving.{disowned, owned_fit}
use Rattle.memory_disk.proofs.log.disown.Goals as goal

pub returns-clause-at : goal.returns-clause-at
returns-clause-at c = disowned (is_leaving c.args.leaving.now) c.args.own.now c.loop-write.own c.args.log.now c.loop-write.write-index c.loop-write-test.false c.requires c.loop-write.invariant.at

pub returns-clause-count : goal.returns-clause-count
returns-clause-count c =
    owned_fit c.loop-write.own (left_of c.args.leaving.now c.args.log.now)
    (disowned (is_leaving c.args.leaving.now) c.args.own.now c.loop-write.own c.args.log.now c.loop-write.write-index c.loop-write-test.false c.requires c.loop-write.invariant.at)
