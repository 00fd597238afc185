use Rattle.std.proofs.Common.{arith, ◌<◌, subst}
use Rattle.std.proofs.lemmas.List.{get_or_default}
use Rattle.memory_disk.specs.Held.{held}
use Rattle.memory_disk.proofs.Placing.{places_keeps}
use Rattle.memory_disk.proofs.memory.InMemory+ListedCalls.put.Goals as goal

pub invariant_of-self-clause-well_formed : goal.invariant_of-self-clause-well_formed
invariant_of-self-clause-well_formed c = places_keeps (held c.args.self.now.store) (held c.put.new.self) c.args.place c.args.bytes.now c.put.result (λ i d h. subst (λ b. b < 256) (get_or_default c.args.bytes.now i 0 d h) (omega (arith, c.type_inv.bytes i))) c.args.self.now.well_formed c.put.ensures.call
