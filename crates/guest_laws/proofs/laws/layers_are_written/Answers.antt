use Rattle.guest_laws.proofs.Writes.{steps}
use Rattle.guest_laws.proofs.laws.layers_are_written.Goals as goal

pub returns : goal.returns
returns c = steps
