use Rattle.memory_disk.proofs.Limits.{keeps_room}
use Rattle.shared_disk.proofs.WellFormed.{down_keeps}
use Rattle.memory_disk.specs.Held.{held}
use Rattle.memory_disk.proofs.in_memory.InMemorySharedDisk.down.Goals as goal

pub returns-clause-limits : goal.returns-clause-limits
returns-clause-limits o c = keeps_room _ c.args.self.now.store c.down.new.self c.down.ensures.room

pub invariant_of-self-clause-well_formed : goal.invariant_of-self-clause-well_formed
invariant_of-self-clause-well_formed o c = down_keeps (held c.args.self.now.store) (held c.down.new.self) c.args.host c.args.self.now.well_formed c.down.ensures.call
