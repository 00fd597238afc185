use Rattle.own_laws.proofs.Changes.{linked_held, others_held}
use Rattle.own_laws.proofs.laws.linked_clusters_are_held.Goals as goal

pub returns-clause-others : goal.returns-clause-others
returns-clause-others c = others_held

pub returns-clause-linked : goal.returns-clause-linked
returns-clause-linked c = linked_held
