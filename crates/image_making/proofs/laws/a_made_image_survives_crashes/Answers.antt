use Rattle.image_making.proofs.Parts.{image_stays, on_each}
use Rattle.image_making.proofs.laws.a_made_image_survives_crashes.Goals as goal

pub returns-clause-whole : goal.returns-clause-whole
returns-clause-whole c x d o is out = image_stays x d o is out

pub returns-clause-either : goal.returns-clause-either
returns-clause-either c x d is = on_each x d is
