use Rattle.std.proofs.Common.{◌≡◌, ◌<◌, subst, ◌+◌, ◌-◌, ◌^◌, min, ◌∙◌, ap, arith, length, sym, ◌/◌}
use Rattle.std.proofs.lemmas.List.{get_or_default}
use Rattle.std.proofs.lemmas.Bool.{false≢true}
use Rattle.shared_disk.specs.Limits.{adds}
use Rattle.memory_disk.proofs.Causes.{cause_counted, cause_exact}
use Rattle.memory_disk.proofs.Limits.{keeps, keeps_listed}
use Rattle.shared_disk.proofs.WellFormed.{write_keeps}
use Rattle.memory_disk.specs.Held.{held}
use Rattle.memory_disk.proofs.in_memory.InMemorySharedDisk.write_at.Goals as goal

pub returns-then-fails-clause-cause : goal.returns-then-fails-clause-cause
returns-then-fails-clause-cause o c = cause_counted _ _ (rw c.if-fails.true at c.fails.ensures.faults) (omega arith)

pub returns-clause-cause : goal.returns-clause-cause
returns-clause-cause o c =
    let same : c.fails.new.self.faults ≡ c.args.self.now.faults = rw c.if-fails.false at c.fails.ensures.faults in
    cause_exact _ _ _ (omega arith) (λ f. c.count.ensures.failed f ∙ ap (λ n. min (n + 1) (2 ^ 64 - 1)) same) (λ h. c.count.ensures.other h ∙ same) (omega (arith, c.count.ensures.no_less)) (omega arith)

pub returns-then-fails-clause-limits : goal.returns-then-fails-clause-limits
returns-then-fails-clause-limits o c =
    keeps_listed (adds (length c.args.bytes.now / 512)) _ _ _ _ _ c.args.self.now.store c.fails.new.self.store c.fails.ensures.failing c.fails.ensures.store (c.fails.ensures.listed.0 c.if-fails.true) (rw c.if-fails.true at c.fails.ensures.faults)

pub returns-clause-limits : goal.returns-clause-limits
returns-clause-limits o c =
    let same : c.fails.new.self.faults ≡ c.args.self.now.faults = rw c.if-fails.false at c.fails.ensures.faults in
    keeps (adds (length c.args.bytes.now / 512)) _ _ _ _ _ c.args.self.now.store c.fails.new.self.store c.write_at-answer.new.self c.write_at-answer.result c.fails.ensures.failing c.fails.ensures.store (λ w. false≢true (sym c.if-fails.false ∙ c.fails.ensures.listed.1 w))
    (record { failed = λ e. c.count.ensures.failed e ∙ ap (λ n. min (n + 1) (2 ^ 64 - 1)) same; other = λ h. c.count.ensures.other h ∙ same })
    (record { room = c.write_at-answer.ensures.room; uses = c.write_at-answer.ensures.units; kept = c.write_at-answer.ensures.kept; failed = c.write_at-answer.ensures.failed })

pub invariant_of-self-clause-well_formed : goal.invariant_of-self-clause-well_formed
invariant_of-self-clause-well_formed o c = write_keeps (held c.fails.new.self.store) (held c.write_at-answer.new.self) c.args.host (c.args.at / 512) c.args.place c.args.bytes.now c.write_at-answer.result c.know.ensures (λ i d h. subst (λ b. b < 256) (get_or_default c.args.bytes.now i 0 d h) (omega (arith, c.type_inv.bytes i))) c.fails.new.self.well_formed c.write_at-answer.ensures.call
