use Rattle.image_clearing.proofs.Sectors.{left_on_each}
use Rattle.image_clearing.proofs.laws.a_clearing_survives_crashes.Goals as goal

pub returns : goal.returns
returns c sd image slot r d is = left_on_each sd image slot r d is
