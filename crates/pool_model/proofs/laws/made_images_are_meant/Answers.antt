use Rattle.pool_model.proofs.RawBase.{raw_means}
use Rattle.pool_model.proofs.Settled.{settled_means}
use Rattle.pool_model.proofs.laws.made_images_are_meant.Goals as goal

pub returns-clause-settled : goal.returns-clause-settled
returns-clause-settled c = settled_means

pub returns-clause-raw : goal.returns-clause-raw
returns-clause-raw c = raw_means
