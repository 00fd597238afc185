use Rattle.std.proofs.Common.{ℕ, List, subst, sym}
use Rattle.shared_disk.specs.Calls.{Told}
use Rattle.lease_area.specs.Hold.{Stands, Takes, record_taken, take_answer}
use Rattle.lease_area.proofs.Moves.{not_zero}
use Rattle.lease_area.proofs.taking.take.Goals as goal

pub returns-then-slot-eq0-clause-content : goal.returns-then-slot-eq0-clause-content
returns-then-slot-eq0-clause-content g c =
    subst
    (λ (s : ℕ). Told (g.D.SharedDisk.content c.args.disk.now) (g.D.SharedDisk.content c.take_role.new.disk)
    (λ d e. (bytes : List ℕ) → Stands d c.args.sd s bytes
    → Takes c.args.sd s (take_answer c.args.up.now c.args.host s c.args.kind c.args.image c.args.expect.now bytes) (g.D.SharedDisk.faults c.take_role.new.disk) (record_taken c.take_role.result) d e))
    (sym c.if-slot-eq0.true) c.take_role.ensures.content

pub returns-else-slot-eq0-clause-content : goal.returns-else-slot-eq0-clause-content
returns-else-slot-eq0-clause-content g c = rw (not_zero c.args.slot c.if-slot-eq0.false) c.take_image.ensures.content
