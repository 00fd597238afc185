use Rattle.layer_linking.proofs.Given.{kept_after, spare_after}
use Rattle.layer_linking.proofs.laws.other_places_stay.Goals as goal

pub returns-clause-spare : goal.returns-clause-spare
returns-clause-spare c h capacity place to behind f g linked apart other spare = spare_after h capacity to behind f g linked place apart other spare

pub returns-clause-kept : goal.returns-clause-kept
returns-clause-kept c h capacity m place to behind f g linked apart other kept = kept_after h capacity to behind f g linked place apart other m kept
