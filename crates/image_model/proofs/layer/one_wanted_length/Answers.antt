use Rattle.image_model.proofs.Rooms.{one_wanted}
use Rattle.image_model.proofs.layer.one_wanted_length.Goals as goal

pub returns : goal.returns
returns c = one_wanted
