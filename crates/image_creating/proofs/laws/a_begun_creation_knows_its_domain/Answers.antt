use Rattle.image_creating.proofs.Begun.{begun_knows}
use Rattle.image_creating.proofs.laws.a_begun_creation_knows_its_domain.Goals as goal

pub returns : goal.returns
returns c master task made x host d begun images tasks none area = begun_knows master task made x host d begun images tasks none area
