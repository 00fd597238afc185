use Rattle.std.proofs.Common.{arith, sym, ◌∙◌, ◌≡◌}
use Rattle.std.proofs.lemmas.Bool.{false≢true}
use Rattle.shared_disk.specs.Limits.{frees}
use Rattle.memory_disk.proofs.Causes.{cause_counted, cause_none}
use Rattle.memory_disk.proofs.Limits.{keeps, keeps_listed, uncounted}
use Rattle.shared_disk.proofs.WellFormedFolders.{remove_dir_keeps}
use Rattle.memory_disk.specs.Held.{held}
use Rattle.memory_disk.proofs.in_memory.InMemorySharedDisk.remove_dir.Goals as goal

pub returns-then-fails-clause-cause : goal.returns-then-fails-clause-cause
returns-then-fails-clause-cause o c = cause_counted _ _ (rw c.if-fails.true at c.fails.ensures.faults) (omega arith)

pub returns-clause-cause : goal.returns-clause-cause
returns-clause-cause o c = cause_none _ _ _ (rw c.if-fails.false at c.fails.ensures.faults) (omega arith) c.remove_dir.ensures.failed

pub returns-then-fails-clause-limits : goal.returns-then-fails-clause-limits
returns-then-fails-clause-limits o c =
    keeps_listed frees _ _ _ _ _ c.args.self.now.store c.fails.new.self.store c.fails.ensures.failing c.fails.ensures.store (c.fails.ensures.listed.0 c.if-fails.true) (rw c.if-fails.true at c.fails.ensures.faults)

pub returns-clause-limits : goal.returns-clause-limits
returns-clause-limits o c =
    let same : c.fails.new.self.faults ≡ c.args.self.now.faults = rw c.if-fails.false at c.fails.ensures.faults in
    keeps frees _ _ _ _ _ c.args.self.now.store c.fails.new.self.store c.remove_dir.new.self c.remove_dir.result c.fails.ensures.failing c.fails.ensures.store (λ w. false≢true (sym c.if-fails.false ∙ c.fails.ensures.listed.1 w))
    (uncounted _ _ c.remove_dir.result same c.remove_dir.ensures.failed)
    (record { room = c.remove_dir.ensures.room; uses = c.remove_dir.ensures.units; kept = c.remove_dir.ensures.kept; failed = λ e. absurd (c.remove_dir.ensures.failed e) })

pub invariant_of-self-clause-well_formed : goal.invariant_of-self-clause-well_formed
invariant_of-self-clause-well_formed o c = remove_dir_keeps (held c.fails.new.self.store) (held c.remove_dir.new.self) c.args.dir c.remove_dir.result c.requires c.fails.new.self.well_formed c.remove_dir.ensures.call
