use Rattle.layer_placing.proofs.Starts.{chosen_apart}
use Rattle.layer_placing.proofs.laws.spare_places_are_not_chosen.Goals as goal

pub returns : goal.returns
returns c p count host i place l f xs begun knows choice within spare = chosen_apart l host f p.stage begun.0 xs i place begun.1 knows choice within spare
