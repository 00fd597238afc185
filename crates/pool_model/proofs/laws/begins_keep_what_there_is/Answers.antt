use Rattle.pool_model.proofs.Begins.{keeps_what_there_is}
use Rattle.pool_model.proofs.laws.begins_keep_what_there_is.Goals as goal

pub returns : goal.returns
returns c = keeps_what_there_is
