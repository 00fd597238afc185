use Rattle.std.proofs.Common.{◌≡◌, List, length, not, ap, subst, sym, arith}
use Rattle.memory_disk.specs.Store.{IsLogWithin, is_by, others_of}
use Rattle.memory_disk.specs.declared.entry.Write.{Write}
use Rattle.memory_disk.proofs.Within.{log_part, stable_settled}
use Rattle.memory_disk.proofs.store.Store.settle.Goals as goal

pub invariant_of-self-clause-log_within : goal.invariant_of-self-clause-log_within
invariant_of-self-clause-log_within c =
    log_part (λ w. not (is_by c.args.host c.args.number w)) c.args.self.now.files.slots.items c.args.self.now.log.items _ c.forget.ensures.items c.args.self.now.log_within

pub invariant_of-self-clause-stable_within : goal.invariant_of-self-clause-stable_within
invariant_of-self-clause-stable_within c =
    let within = subst (λ (ws : List Write). IsLogWithin c.args.self.now.files.slots.items ws) (sym c.deref.ensures.value) c.args.self.now.log_within in
    stable_settled c.args.host c.args.number c.args.self.now.files.slots.items c.args.self.now.stable c.settle.new.stable c.deref.result.now c.args.self.now.stable_within within c.settle.ensures.at

pub invariant_of-self-clause-used : goal.invariant_of-self-clause-used
invariant_of-self-clause-used c =
    let left : length c.forget.new.log.items ≡ length (others_of c.args.host c.args.number c.args.self.now.log.items) = ap length c.forget.ensures.items in
    let same : length (others_of c.args.host c.args.number c.deref.result.now) ≡ length (others_of c.args.host c.args.number c.args.self.now.log.items) = ap (λ (ws : List Write). length (others_of c.args.host c.args.number ws)) c.deref.ensures.value in
    let all : length c.deref.result.now ≡ length c.args.self.now.log.items = ap length c.deref.ensures.value in
    omega (arith, left, same, all, c.settle.ensures.count, c.args.self.now.used)

pub returns-clause-units : goal.returns-clause-units
returns-clause-units c =
    let left : length c.forget.new.log.items ≡ length (others_of c.args.host c.args.number c.args.self.now.log.items) = ap length c.forget.ensures.items in
    let same : length (others_of c.args.host c.args.number c.deref.result.now) ≡ length (others_of c.args.host c.args.number c.args.self.now.log.items) = ap (λ (ws : List Write). length (others_of c.args.host c.args.number ws)) c.deref.ensures.value in
    let all : length c.deref.result.now ≡ length c.args.self.now.log.items = ap length c.deref.ensures.value in
    omega (arith, left, same, all, c.settle.ensures.count)
