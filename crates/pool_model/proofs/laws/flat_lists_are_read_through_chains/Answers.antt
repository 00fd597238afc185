use Rattle.pool_model.proofs.Flats.{flats_read}
use Rattle.pool_model.proofs.laws.flat_lists_are_read_through_chains.Goals as goal

pub returns : goal.returns
returns c = flats_read
