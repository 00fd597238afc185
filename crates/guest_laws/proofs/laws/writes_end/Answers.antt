use Rattle.guest_laws.proofs.Writes.{ends}
use Rattle.guest_laws.proofs.laws.writes_end.Goals as goal

pub returns : goal.returns
returns c = ends
