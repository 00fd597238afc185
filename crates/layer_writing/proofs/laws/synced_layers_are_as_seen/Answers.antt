use Rattle.layer_writing.proofs.Known.{synced_comes, synced_knows, synced_outcome, synced_seen, synced_spare}
use Rattle.layer_writing.proofs.Sectors.{alone_synced}
use Rattle.layer_writing.proofs.laws.synced_layers_are_as_seen.Goals as goal

pub returns-clause-settled : goal.returns-clause-settled
returns-clause-settled c host f alone = alone_synced host f alone

pub returns-clause-seen : goal.returns-clause-seen
returns-clause-seen c host f alone = synced_seen host f alone

pub returns-clause-medium : goal.returns-clause-medium
returns-clause-medium c host f alone = synced_outcome host f alone

pub returns-clause-knows : goal.returns-clause-knows
returns-clause-knows c l host f knows = synced_knows l host f knows

pub returns-clause-comes : goal.returns-clause-comes
returns-clause-comes c h capacity host f = synced_comes h capacity host f

pub returns-clause-spare : goal.returns-clause-spare
returns-clause-spare c h capacity place host f alone spare = synced_spare h capacity place host f alone spare
