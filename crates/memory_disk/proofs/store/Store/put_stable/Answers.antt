use Rattle.std.proofs.Common.{◌≡◌, not, length, is_some, ap, arith}
use Rattle.memory_disk.specs.Sectors.{sector_at}
use Rattle.memory_disk.specs.Store.{is_at}
use Rattle.memory_disk.proofs.PutSectors.{one_at_most, put_within}
use Rattle.memory_disk.proofs.Within.{filter_no_more, log_part}
use Rattle.memory_disk.proofs.store.Store.put_stable.Goals as goal

pub returns-clause-stable : goal.returns-clause-stable
returns-clause-stable c = λ n j. c.put.ensures.at 0 n j

pub invariant_of-self-clause-stable_within : goal.invariant_of-self-clause-stable_within
invariant_of-self-clause-stable_within c =
    put_within c.args.number c.args.k c.args.self.now.files.slots.items c.args.self.now.stable c.put.new.self c.args.bytes.now c.args.self.now.stable_within c.requires.there (λ n j. c.put.ensures.at 0 n j)

pub invariant_of-self-clause-log_within : goal.invariant_of-self-clause-log_within
invariant_of-self-clause-log_within c =
    log_part (λ w. not (is_at c.args.number c.args.k w)) c.args.self.now.files.slots.items c.args.self.now.log.items c.forget.new.log.items c.forget.ensures.items c.args.self.now.log_within

pub invariant_of-self-clause-used : goal.invariant_of-self-clause-used
invariant_of-self-clause-used c =
    let fewer : length c.forget.new.log.items ≡ _ = ap length c.forget.ensures.items in
    omega (arith, fewer, c.put.ensures.count, c.requires.room)

pub returns-clause-units : goal.returns-clause-units
returns-clause-units c =
    let fewer = filter_no_more (λ w. not (is_at c.args.number c.args.k w)) c.args.self.now.log.items c.forget.new.log.items c.forget.ensures.items in
    let more = one_at_most (is_some (sector_at c.args.self.now.stable 0 c.args.number c.args.k)) in
    omega (arith, fewer, more, c.put.ensures.count)
