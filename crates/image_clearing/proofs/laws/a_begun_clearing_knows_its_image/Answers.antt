use Rattle.image_clearing.proofs.Steps.{begun_knows}
use Rattle.image_clearing.proofs.laws.a_begun_clearing_knows_its_image.Goals as goal

pub returns : goal.returns
returns c sd image clearing d begun known = begun_knows sd image clearing d begun known
