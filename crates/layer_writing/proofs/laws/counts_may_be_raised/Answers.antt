use Rattle.layer_writing.proofs.OfLayers.{counts_comes, counts_know, counts_left, counts_same}
use Rattle.layer_writing.proofs.laws.counts_may_be_raised.Goals as goal

pub returns-clause-knows : goal.returns-clause-knows
returns-clause-knows c l m did host at k bytes f formed knows there inside fits raises same tells = counts_know l m did host at k bytes f formed knows there inside fits raises same tells

pub returns-clause-left : goal.returns-clause-left
returns-clause-left c l m did host at k bytes f formed knows there inside fits raises same = counts_left l m did host at k bytes f formed knows there inside fits raises same

pub returns-clause-comes : goal.returns-clause-comes
returns-clause-comes c l did host at k bytes f formed knows there inside fits raises = counts_comes l l did host at k bytes f formed knows there inside fits raises

pub returns-clause-seen : goal.returns-clause-seen
returns-clause-seen c l did host at k bytes f formed knows there inside fits raises = counts_same l l did host at k bytes f formed knows there inside fits raises
