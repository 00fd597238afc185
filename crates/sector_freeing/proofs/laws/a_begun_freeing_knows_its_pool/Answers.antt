use Rattle.sector_freeing.proofs.Beside.{begun_knows}
use Rattle.sector_freeing.proofs.laws.a_begun_freeing_knows_its_pool.Goals as goal

pub returns : goal.returns
returns c up d p h sd s stands known at = begun_knows up d p h sd s stands known at
