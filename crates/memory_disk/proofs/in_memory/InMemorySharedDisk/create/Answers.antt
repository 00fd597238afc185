use Rattle.std.proofs.Common.{◌/◌, ◌≡◌, ◌+◌, ◌-◌, ◌^◌, min, ◌∙◌, ap, arith, sym}
use Rattle.std.proofs.lemmas.Bool.{false≢true}
use Rattle.shared_disk.specs.Limits.{adds}
use Rattle.memory_disk.proofs.Causes.{cause_counted, cause_exact}
use Rattle.memory_disk.proofs.Limits.{keeps, keeps_listed}
use Rattle.shared_disk.proofs.WellFormed.{create_keeps}
use Rattle.memory_disk.specs.Held.{held}
use Rattle.memory_disk.proofs.in_memory.InMemorySharedDisk.create.Goals as goal

pub returns-then-fails-clause-cause : goal.returns-then-fails-clause-cause
returns-then-fails-clause-cause o c = cause_counted _ _ (rw c.if-fails.true at c.fails.ensures.faults) (omega arith)

pub returns-clause-cause : goal.returns-clause-cause
returns-clause-cause o c =
    let same : c.fails.new.self.faults ≡ c.args.self.now.faults = rw c.if-fails.false at c.fails.ensures.faults in
    cause_exact _ _ _ (omega arith) (λ f. c.count.ensures.failed f ∙ ap (λ n. min (n + 1) (2 ^ 64 - 1)) same) (λ h. c.count.ensures.other h ∙ same) (omega (arith, c.count.ensures.no_less)) (omega arith)

pub returns-then-fails-clause-limits : goal.returns-then-fails-clause-limits
returns-then-fails-clause-limits o c =
    keeps_listed (adds 1) _ _ _ _ _ c.args.self.now.store c.fails.new.self.store c.fails.ensures.failing c.fails.ensures.store (c.fails.ensures.listed.0 c.if-fails.true) (rw c.if-fails.true at c.fails.ensures.faults)

pub returns-clause-limits : goal.returns-clause-limits
returns-clause-limits o c =
    let same : c.fails.new.self.faults ≡ c.args.self.now.faults = rw c.if-fails.false at c.fails.ensures.faults in
    keeps (adds 1) _ _ _ _ _ c.args.self.now.store c.fails.new.self.store c.create-answer.new.self c.create-answer.result c.fails.ensures.failing c.fails.ensures.store (λ w. false≢true (sym c.if-fails.false ∙ c.fails.ensures.listed.1 w))
    (record { failed = λ e. c.count.ensures.failed e ∙ ap (λ n. min (n + 1) (2 ^ 64 - 1)) same; other = λ h. c.count.ensures.other h ∙ same })
    (record { room = c.create-answer.ensures.room; uses = c.create-answer.ensures.units; kept = c.create-answer.ensures.kept; failed = c.create-answer.ensures.failed })

pub invariant_of-self-clause-well_formed : goal.invariant_of-self-clause-well_formed
invariant_of-self-clause-well_formed o c = create_keeps (held c.fails.new.self.store) (held c.create-answer.new.self) c.args.host (c.args.length / 512) c.args.place c.create-answer.result c.know.ensures c.fails.new.self.well_formed c.create-answer.ensures.call
