use Rattle.std.proofs.Common.{arith, subst, ap, ◌<◌, min, sym, ◌+◌, ◌-◌, ◌^◌, ◌∙◌, ◌≡◌}
use Rattle.std.proofs.lemmas.List.{get_or_default}
use Rattle.std.proofs.lemmas.Bool.{false≢true}
use Rattle.shared_disk.specs.Limits.{adds_at_most}
use Rattle.memory_disk.proofs.Causes.{cause_by, cause_counted}
use Rattle.memory_disk.proofs.Limits.{counted_by, keeps, keeps_listed}
use Rattle.shared_disk.proofs.WellFormed.{exchange_keeps}
use Rattle.memory_disk.specs.Held.{held}
use Rattle.memory_disk.proofs.in_memory.InMemorySharedDisk.exchange.Goals as goal

pub returns-then-fails-clause-cause : goal.returns-then-fails-clause-cause
returns-then-fails-clause-cause o c = cause_counted _ _ (rw c.if-fails.true at c.fails.ensures.faults) (omega arith)

pub returns-clause-cause : goal.returns-clause-cause
returns-clause-cause o c =
    let same : c.fails.new.self.faults ≡ c.args.self.now.faults = rw c.if-fails.false at c.fails.ensures.faults in
    cause_by _ _ _ (omega arith)
    (counted_by _ _ c.exchange-answer.result c.map.result _ c.map.ensures.cases c.map.ensures.variant (record { failed = λ e. c.count.ensures.failed e ∙ ap (λ n. min (n + 1) (2 ^ 64 - 1)) same; other = λ h. c.count.ensures.other h ∙ same }))
    (omega (arith, c.count.ensures.no_less)) (omega arith)

pub returns-then-fails-clause-limits : goal.returns-then-fails-clause-limits
returns-then-fails-clause-limits o c =
    keeps_listed (adds_at_most 1) _ _ _ _ _ c.args.self.now.store c.fails.new.self.store c.fails.ensures.failing c.fails.ensures.store (c.fails.ensures.listed.0 c.if-fails.true) (rw c.if-fails.true at c.fails.ensures.faults)

pub returns-clause-limits : goal.returns-clause-limits
returns-clause-limits o c =
    let same : c.fails.new.self.faults ≡ c.args.self.now.faults = rw c.if-fails.false at c.fails.ensures.faults in
    keeps (adds_at_most 1) _ _ _ _ _ c.args.self.now.store c.fails.new.self.store c.exchange-answer.new.self c.exchange-answer.result c.fails.ensures.failing c.fails.ensures.store (λ w. false≢true (sym c.if-fails.false ∙ c.fails.ensures.listed.1 w))
    (counted_by _ _ c.exchange-answer.result c.map.result _ c.map.ensures.cases c.map.ensures.variant (record { failed = λ e. c.count.ensures.failed e ∙ ap (λ n. min (n + 1) (2 ^ 64 - 1)) same; other = λ h. c.count.ensures.other h ∙ same }))
    (record { room = c.exchange-answer.ensures.room; uses = c.exchange-answer.ensures.units; kept = c.exchange-answer.ensures.kept; failed = c.exchange-answer.ensures.failed })

pub invariant_of-self-clause-well_formed : goal.invariant_of-self-clause-well_formed
invariant_of-self-clause-well_formed o c = exchange_keeps (held c.fails.new.self.store) (held c.exchange-answer.new.self) c.args.host c.args.sector c.args.place c.args.expect.now c.args.next.now c.exchange-answer.result (record { len = c.told-next; fits = λ i d h. subst (λ b. b < 256) (get_or_default c.args.next.now i 0 d h) (c.fits-next i) }) c.fails.new.self.well_formed c.exchange-answer.ensures.call
