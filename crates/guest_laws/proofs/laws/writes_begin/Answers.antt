use Rattle.guest_laws.proofs.Writes.{begins, of_volume}
use Rattle.guest_laws.proofs.laws.writes_begin.Goals as goal

pub returns-clause-write : goal.returns-clause-write
returns-clause-write c = begins

pub returns-clause-volume : goal.returns-clause-volume
returns-clause-volume c = of_volume
