use Rattle.cluster_filling.proofs.Paths.{filled_alike}
use Rattle.cluster_filling.proofs.laws.filled_clusters_read_alike.Goals as goal

pub returns : goal.returns
returns g k c x i entry vs part n s shape at is held below low out wanted = filled_alike k c x i entry vs part n s shape at is held below low out wanted
