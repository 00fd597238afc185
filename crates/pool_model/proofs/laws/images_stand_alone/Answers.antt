use Rattle.pool_model.proofs.Frames.{image_stays}
use Rattle.pool_model.proofs.laws.images_stand_alone.Goals as goal

pub returns : goal.returns
returns c = image_stays
