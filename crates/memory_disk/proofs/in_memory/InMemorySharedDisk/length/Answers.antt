use Rattle.std.proofs.Common.{arith, sym, ◌∙◌, ◌≡◌}
use Rattle.std.proofs.lemmas.Bool.{false≢true}
use Rattle.shared_disk.specs.Limits.{adds}
use Rattle.memory_disk.proofs.Causes.{cause_counted, cause_none}
use Rattle.memory_disk.proofs.Limits.{keeps, keeps_listed, looked, uncounted}
use Rattle.memory_disk.proofs.in_memory.InMemorySharedDisk.length.Goals as goal

pub returns-then-fails-clause-cause : goal.returns-then-fails-clause-cause
returns-then-fails-clause-cause o c = cause_counted _ _ (rw c.if-fails.true at c.fails.ensures.faults) (omega arith)

pub returns-clause-cause : goal.returns-clause-cause
returns-clause-cause o c = cause_none _ _ _ (rw c.if-fails.false at c.fails.ensures.faults) (omega arith) c.length.ensures.failed

pub returns-then-fails-clause-limits : goal.returns-then-fails-clause-limits
returns-then-fails-clause-limits o c =
    keeps_listed (adds 0) _ _ _ _ _ c.args.self.now.store c.fails.new.self.store c.fails.ensures.failing c.fails.ensures.store (c.fails.ensures.listed.0 c.if-fails.true) (rw c.if-fails.true at c.fails.ensures.faults)

pub returns-clause-limits : goal.returns-clause-limits
returns-clause-limits o c =
    let same : c.fails.new.self.faults ≡ c.args.self.now.faults = rw c.if-fails.false at c.fails.ensures.faults in
    keeps (adds 0) _ _ _ _ _ c.args.self.now.store c.fails.new.self.store c.fails.new.self.store c.length.result c.fails.ensures.failing c.fails.ensures.store (λ w. false≢true (sym c.if-fails.false ∙ c.fails.ensures.listed.1 w))
    (uncounted _ _ c.length.result same c.length.ensures.failed)
    (looked c.fails.new.self.store c.length.result c.length.ensures.failed)
