use Rattle.part_laws.proofs.Held.{part_everywhere}
use Rattle.part_laws.proofs.laws.volumes_hold_the_part.Goals as goal

pub returns : goal.returns
returns c = part_everywhere
