use Rattle.std.proofs.Common.{ℕ, List, Option, Some, ap, ◌∙◌, if◌then◌else◌}
use Rattle.memory_disk.specs.Cells.{key_eq}
use Rattle.memory_disk.proofs.Within.{log_more, own_more}
use Rattle.memory_disk.proofs.store.Store.write_sector.Goals as goal

pub invariant_of-self-clause-log_within : goal.invariant_of-self-clause-log_within
invariant_of-self-clause-log_within c =
    log_more c.args.self.now.files.slots.items c.args.self.now.log.items c.push_reserved.new.self.items _ c.push_reserved.ensures.items c.requires.there c.args.self.now.log_within

pub invariant_of-self-clause-own_is : goal.invariant_of-self-clause-own_is
invariant_of-self-clause-own_is c = λ h n k.
    rw c.get-3.ensures.value at (c.put.ensures.at h n k)
    ∙ ap (λ (o : Option (List ℕ)). if key_eq (c.args.host, c.args.number, c.args.k) (h, n, k) then Some c.args.bytes else o) (c.args.self.now.own_is h n k)
    ∙ own_more c.args.self.now.log.items c.push_reserved.new.self.items _ h n k c.push_reserved.ensures.items
