use Rattle.std.proofs.Common.{◌≡◌, ◌==◌, List, not, length, ap, sym, subst, arith}
use Rattle.memory_disk.specs.Settled.{IsSettling}
use Rattle.memory_disk.specs.Store.{IsLogWithin, not_by}
use Rattle.memory_disk.specs.declared.entry.Write.{Write}
use Rattle.memory_disk.proofs.Settling.{settling_within, synced_housed, synced_wider}
use Rattle.memory_disk.proofs.Within.{log_part, log_wider, stable_wider}
use Rattle.memory_disk.proofs.store.Store.settle_host.Goals as goal

pub settle_writes-requires-clause-within : goal.settle_writes-requires-clause-within
settle_writes-requires-clause-within c = subst (λ (ws : List Write). IsLogWithin c.args.self.now.files.slots.items ws) (sym c.deref.ensures.value) c.args.self.now.log_within

pub returns-clause-at : goal.returns-clause-at
returns-clause-at c =
    subst (λ (ws : List Write). IsSettling c.args.host c.args.self.now.files.slots.items ws c.args.self.now.stable c.settle_writes.new.stable) c.deref.ensures.value c.settle_writes.ensures.at

pub invariant_of-self-clause-stable_within : goal.invariant_of-self-clause-stable_within
invariant_of-self-clause-stable_within c =
    stable_wider c.args.self.now.files.slots.items c.sync.new.self.slots.items c.settle_writes.new.stable (synced_wider c.args.host c.args.self.now.files.slots.items c.sync.new.self.slots.items c.sync.ensures.slots)
    (settling_within c.args.host c.args.self.now.files.slots.items c.deref.result.now c.args.self.now.stable c.settle_writes.new.stable c.settle_writes.ensures.at c.args.self.now.stable_within)

pub invariant_of-self-clause-log_within : goal.invariant_of-self-clause-log_within
invariant_of-self-clause-log_within c =
    log_wider c.args.self.now.files.slots.items c.sync.new.self.slots.items c.forget.new.log.items (synced_wider c.args.host c.args.self.now.files.slots.items c.sync.new.self.slots.items c.sync.ensures.slots)
    (log_part (λ w. not (w.host == c.args.host)) c.args.self.now.files.slots.items c.args.self.now.log.items c.forget.new.log.items c.forget.ensures.items c.args.self.now.log_within)

pub invariant_of-self-clause-housed : goal.invariant_of-self-clause-housed
invariant_of-self-clause-housed c = synced_housed c.args.host c.args.self.now.dirs.items c.args.self.now.files.slots.items c.sync.new.self.slots.items c.sync.ensures.slots c.args.self.now.housed

pub invariant_of-self-clause-used : goal.invariant_of-self-clause-used
invariant_of-self-clause-used c =
    let left : length c.forget.new.log.items ≡ length (not_by c.args.host c.args.self.now.log.items) = ap length c.forget.ensures.items in
    let same : length (not_by c.args.host c.deref.result.now) ≡ length (not_by c.args.host c.args.self.now.log.items) = ap (λ ws. length (not_by c.args.host ws)) c.deref.ensures.value in
    let all : length c.deref.result.now ≡ length c.args.self.now.log.items = ap length c.deref.ensures.value in
    omega (arith, left, same, all, c.settle_writes.ensures.count, c.sync.ensures.count, c.args.self.now.used)
