use Rattle.shared_disk.proofs.OwnWrites.{without_writes}
use Rattle.shared_disk.proofs.laws.own_writes_go_together.Goals as goal

pub returns : goal.returns
returns c = without_writes
