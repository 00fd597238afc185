use Rattle.layer_writing.proofs.OfLayers.{unnamed_comes, unnamed_knows, unnamed_same}
use Rattle.layer_writing.proofs.laws.unnamed_clusters_may_be_written.Goals as goal

pub returns-clause-knows : goal.returns-clause-knows
returns-clause-knows c l did host at place bytes f formed knows inside unnamed = unnamed_knows l did host at place bytes f formed knows inside unnamed

pub returns-clause-comes : goal.returns-clause-comes
returns-clause-comes c l did host at place bytes f formed knows inside unnamed = unnamed_comes l did host at place bytes f formed knows inside unnamed

pub returns-clause-seen : goal.returns-clause-seen
returns-clause-seen c l did host at place bytes f formed knows inside unnamed = unnamed_same l did host at place bytes f formed knows inside unnamed
