use Rattle.part_laws.proofs.Held.{part_held}
use Rattle.part_laws.proofs.laws.data_of_the_part_is_held.Goals as goal

pub returns : goal.returns
returns c = part_held
