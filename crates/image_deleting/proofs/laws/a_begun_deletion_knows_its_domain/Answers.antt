use Rattle.image_deleting.proofs.Begun.{begun_knows}
use Rattle.image_deleting.proofs.laws.a_begun_deletion_knows_its_domain.Goals as goal

pub returns : goal.returns
returns c master task sd image made host d begun tasks none once ids = begun_knows master task sd image made host d begun tasks none once ids
