use Rattle.chain_laws.proofs.Mixed.{mixed}
use Rattle.chain_laws.proofs.laws.reads_stay_mixed.Goals as goal

pub returns : goal.returns
returns c = mixed
