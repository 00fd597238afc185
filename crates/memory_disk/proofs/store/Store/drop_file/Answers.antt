use Rattle.std.proofs.Common.{◌==◌, not, ap, ◌∙◌, arith}
use Rattle.memory_disk.specs.Store.{loose_of}
use Rattle.memory_disk.proofs.Removed.{housed_left, log_left, outside_other, stable_left}
use Rattle.memory_disk.proofs.Within.{filter_no_more}
use Rattle.memory_disk.proofs.store.Store.drop_file.Goals as goal

pub take_file-requires : goal.take_file-requires
take_file-requires c = λ k past. c.args.self.now.stable_within c.args.number k (rw (← c.size-size.ensures) past)

pub invariant_of-self-clause-housed : goal.invariant_of-self-clause-housed
invariant_of-self-clause-housed c = housed_left c.args.self.now.dirs.items c.args.number c.args.self.now.files.slots.items c.take.new.self.slots.items c.take.ensures.put c.args.self.now.housed

pub invariant_of-self-clause-log_within : goal.invariant_of-self-clause-log_within
invariant_of-self-clause-log_within c =
    log_left c.args.number c.args.self.now.files.slots.items c.take.new.self.slots.items c.args.self.now.log.items c.forget.new.log.items c.take.ensures.put c.forget.ensures.items c.args.self.now.log_within

pub invariant_of-self-clause-stable_within : goal.invariant_of-self-clause-stable_within
invariant_of-self-clause-stable_within c =
    stable_left c.args.number c.args.self.now.files.slots.items c.take.new.self.slots.items c.args.self.now.stable c.take_file.new.self c.take.ensures.put c.args.self.now.stable_within
    c.take_file.ensures.gone c.take_file.ensures.others

pub invariant_of-self-clause-used : goal.invariant_of-self-clause-used
invariant_of-self-clause-used c =
    let fewer = filter_no_more (λ v. not (v.file == c.args.number)) c.args.self.now.log.items c.forget.new.log.items c.forget.ensures.items in
    omega (arith, fewer, c.take_file.ensures.count, c.take.ensures.count, c.args.self.now.used)

pub invariant_of-self-clause-stable_room : goal.invariant_of-self-clause-stable_room
invariant_of-self-clause-stable_room c = omega (arith, c.take_file.ensures.room, c.args.self.now.stable_room)

pub returns-clause-loose : goal.returns-clause-loose
returns-clause-loose c = λ n apart. ap (λ ws. loose_of n ws) c.forget.ensures.items ∙ outside_other c.args.number n c.args.self.now.log.items apart

pub returns-clause-units : goal.returns-clause-units
returns-clause-units c =
    let fewer = filter_no_more (λ v. not (v.file == c.args.number)) c.args.self.now.log.items c.forget.new.log.items c.forget.ensures.items in
    omega (arith, fewer, c.take_file.ensures.count, c.take.ensures.count)
