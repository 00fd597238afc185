use Rattle.part_laws.proofs.Held.{stay_held}
use Rattle.part_laws.proofs.laws.held_parts_stay_held.Goals as goal

pub returns : goal.returns
returns c = stay_held
