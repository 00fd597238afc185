use Rattle.layer_writing.proofs.Known.{spare_stays, unnamed_on_each}
use Rattle.layer_writing.proofs.laws.spare_places_stay.Goals as goal

pub returns-clause-each : goal.returns-clause-each
returns-clause-each c l host place f knows unnamed = unnamed_on_each l host place f knows unnamed

pub returns-clause-spare : goal.returns-clause-spare
returns-clause-spare c h capacity place f g content size spare = spare_stays h capacity place f g content size spare
