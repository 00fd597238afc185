use Rattle.image_model.proofs.Rooms.{used_if_named}
use Rattle.image_model.proofs.layer.named_clusters_are_used.Goals as goal

pub returns-clause-used : goal.returns-clause-used
returns-clause-used c = used_if_named

pub returns-clause-kept : goal.returns-clause-kept
returns-clause-kept c t capacity n leaked named = leaked.unnamed named
