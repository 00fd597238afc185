use Rattle.std.proofs.Common.{◌≡◌, ◌*◌}
use Rattle.lease_area.specs.Noted.{noted}
use Rattle.lease_area.proofs.scan.Scan.look.Given as goal

abbrev pub invariant-loop-k : goal.invariant-loop-k
invariant-loop-k l = l.seen ≡ noted l.fn.self.image (128 * l.fn.self.made) l.fn.room l.k l.fn.self.seen
