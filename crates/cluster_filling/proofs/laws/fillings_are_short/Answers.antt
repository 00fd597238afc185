use Rattle.cluster_filling.proofs.Counts.{cluster_cost}
use Rattle.cluster_filling.proofs.laws.fillings_are_short.Goals as goal

pub returns : goal.returns
returns g k c = cluster_cost k c
