use Rattle.pool_model.proofs.Readings.{reading_agrees}
use Rattle.pool_model.proofs.laws.one_volume_is_read.Goals as goal

pub returns : goal.returns
returns c = reading_agrees
