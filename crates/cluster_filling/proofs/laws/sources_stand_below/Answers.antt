use Rattle.cluster_filling.proofs.Paths.{source_known}
use Rattle.cluster_filling.proofs.laws.sources_stand_below.Goals as goal

pub returns : goal.returns
returns g k c host x i entry u d at is image = source_known k c host x i entry u d at is image
