use Rattle.std.proofs.Common.{◌≡◌, None, true, is_some, arith}
use Rattle.std.proofs.lemmas.Option.{none-some}
use Rattle.memory_disk.specs.Store.{slot}
use Rattle.memory_disk.proofs.Slots.{slot_set, slot_within_some, put_apart, count_put}
use Rattle.memory_disk.proofs.files.Files.take.Goals as goal

pub invariant_of-self-clause-counted : goal.invariant_of-self-clause-counted
invariant_of-self-clause-counted c =
    let within = slot_within_some c.args.number c.args.self.now.slots.items c.requires.there in
    let had : is_some (slot c.args.number c.args.self.now.slots.items) ≡ true = c.requires.there in
    omega (arith, rw had at (count_put c.args.number None c.args.self.now.slots.items within), c.args.self.now.counted)

pub invariant_of-self-clause-apart : goal.invariant_of-self-clause-apart
invariant_of-self-clause-apart c =
    let within = slot_within_some c.args.number c.args.self.now.slots.items c.requires.there in
    put_apart c.args.number None c.args.self.now.slots.items _ (slot_set c.args.number None c.args.self.now.slots.items within) c.args.self.now.apart
    (λ k x y is new at. absurd (none-some y new))

pub returns-clause-put : goal.returns-clause-put
returns-clause-put c =
    slot_set c.args.number None c.args.self.now.slots.items (slot_within_some c.args.number c.args.self.now.slots.items c.requires.there)
