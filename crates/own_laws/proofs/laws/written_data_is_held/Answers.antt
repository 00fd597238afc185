use Rattle.own_laws.proofs.Changes.{written_held}
use Rattle.own_laws.proofs.laws.written_data_is_held.Goals as goal

pub returns : goal.returns
returns c = written_held
