use Rattle.image_making.proofs.Opens.{no_backing, zero_read}
use Rattle.image_making.proofs.laws.a_made_image_reads_as_zeros.Goals as goal

pub returns-clause-flat : goal.returns-clause-flat
returns-clause-flat c x d k base is = zero_read x d base is k

pub returns-clause-backed : goal.returns-clause-backed
returns-clause-backed c x d base is = no_backing x d base is
