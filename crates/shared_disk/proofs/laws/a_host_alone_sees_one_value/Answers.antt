use Rattle.shared_disk.proofs.NameOutcomes.{alone_sees}
use Rattle.shared_disk.proofs.laws.a_host_alone_sees_one_value.Goals as goal

pub returns : goal.returns
returns c = alone_sees
