use Rattle.std.proofs.Common.{ap, sym, ◌∙◌}
use Rattle.shared_disk.specs.Content.{own_of}
use Rattle.memory_disk.specs.Store.{loose_of}
use Rattle.memory_disk.proofs.Placing.{same_housed, same_log_within, same_within}
use Rattle.memory_disk.proofs.store.Store.add_room.Goals as goal

pub invariant_of-self-clause-own_is : goal.invariant_of-self-clause-own_is
invariant_of-self-clause-own_is c = λ h n k. c.reserve_units-answer.ensures.own h n k ∙ c.args.self.now.own_is h n k ∙ ap (λ ws. own_of h k (loose_of n ws)) (sym c.reserve_units-answer.ensures.log)

pub invariant_of-self-clause-stable_within : goal.invariant_of-self-clause-stable_within
invariant_of-self-clause-stable_within c =
    same_within c.args.self.now.files.slots.items c.reserve_units-answer.new.files.slots.items c.args.self.now.stable c.reserve_units-answer.new.stable c.reserve_units-answer.ensures.slots c.reserve_units-answer.ensures.stable c.args.self.now.stable_within

pub invariant_of-self-clause-log_within : goal.invariant_of-self-clause-log_within
invariant_of-self-clause-log_within c =
    same_log_within c.args.self.now.files.slots.items c.reserve_units-answer.new.files.slots.items c.args.self.now.log.items c.reserve_units-answer.new.log.items c.reserve_units-answer.ensures.slots c.reserve_units-answer.ensures.log c.args.self.now.log_within

pub invariant_of-self-clause-housed : goal.invariant_of-self-clause-housed
invariant_of-self-clause-housed c =
    same_housed c.args.self.now.dirs.items c.reserve_units-answer.new.dirs.items c.args.self.now.files.slots.items c.reserve_units-answer.new.files.slots.items c.reserve_units-answer.ensures.dirs c.reserve_units-answer.ensures.slots c.args.self.now.housed
