use Rattle.cluster_filling.proofs.Medium.{beside_seen, file_seen, outcome_has, sector_there, synced_has}
use Rattle.cluster_filling.proofs.laws.filled_clusters_reach_the_medium.Goals as goal

pub returns-clause-seen : goal.returns-clause-seen
returns-clause-seen g k c host x part d f knows there = file_seen k c host x part d f knows there

pub returns-clause-beside : goal.returns-clause-beside
returns-clause-beside g k c x part did host at bytes f side sees = beside_seen k c x part did host at bytes f side sees

pub returns-clause-synced : goal.returns-clause-synced
returns-clause-synced g k c x part host f sees = synced_has k c x part host f sees

pub returns-clause-each : goal.returns-clause-each
returns-clause-each g k c x part f settled has = outcome_has k c x part f settled has

pub returns-clause-there : goal.returns-clause-there
returns-clause-there g new k c x part f n is place first whole at has = sector_there new k c x part f n is place first whole at has
