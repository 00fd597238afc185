use Rattle.own_laws.proofs.Data.{data_held}
use Rattle.own_laws.proofs.laws.data_is_held_at_its_place.Goals as goal

pub returns : goal.returns
returns c = data_held
