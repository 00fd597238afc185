use Rattle.layer_writing.proofs.OfLayers.{kept_comes, kept_knows, kept_same}
use Rattle.layer_writing.proofs.laws.kept_clusters_may_be_written.Goals as goal

pub returns-clause-knows : goal.returns-clause-knows
returns-clause-knows c l did host at k place bytes f formed knows inside zero some = kept_knows l did host at k place bytes f formed knows inside zero some

pub returns-clause-comes : goal.returns-clause-comes
returns-clause-comes c l did host at k place bytes f formed knows inside zero some = kept_comes l did host at k place bytes f formed knows inside zero some

pub returns-clause-seen : goal.returns-clause-seen
returns-clause-seen c l did host at k place bytes f formed knows inside zero some = kept_same l did host at k place bytes f formed knows inside zero some
