use Rattle.std.proofs.Common.{inr}
use Rattle.memory_disk.proofs.PutSectors.{put_within}
use Rattle.memory_disk.proofs.Settling.{settling_put}
use Rattle.memory_disk.proofs.store.Store.fill.Goals as goal

pub invariant_of-self-clause-stable_within : goal.invariant_of-self-clause-stable_within
invariant_of-self-clause-stable_within c =
    put_within c.args.number c.args.k c.args.self.now.files.slots.items c.args.self.now.stable c.put.new.self c.args.bytes.now c.args.self.now.stable_within c.requires.there (λ n j. c.put.ensures.at 0 n j)

pub returns-clause-at : goal.returns-clause-at
returns-clause-at c =
    settling_put c.args.host c.args.self.now.files.slots.items c.args.self.now.log.items c.args.self.now.stable c.put.new.self c.args.number c.args.k c.args.bytes.now
    (record { within = c.requires.there; cases = inr (c.requires.fresh, c.requires.bytes) }) (λ n j. c.put.ensures.at 0 n j)
