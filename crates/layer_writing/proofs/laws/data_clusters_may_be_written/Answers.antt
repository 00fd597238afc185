use Rattle.layer_writing.proofs.OfLayers.{data_comes, data_knows, data_same}
use Rattle.layer_writing.proofs.laws.data_clusters_may_be_written.Goals as goal

pub returns-clause-knows : goal.returns-clause-knows
returns-clause-knows c l did host at k place bytes f formed knows inside held = data_knows l did host at k place bytes f formed knows inside held

pub returns-clause-comes : goal.returns-clause-comes
returns-clause-comes c l did host at k place bytes f formed knows inside held = data_comes l did host at k place bytes f formed knows inside held

pub returns-clause-seen : goal.returns-clause-seen
returns-clause-seen c l did host at k place bytes f formed knows inside held = data_same l did host at k place bytes f formed knows inside held
