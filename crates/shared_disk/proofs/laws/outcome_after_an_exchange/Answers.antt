use Rattle.shared_disk.proofs.Changes.{exchanged_file}
use Rattle.shared_disk.proofs.laws.outcome_after_an_exchange.Goals as goal

pub returns : goal.returns
returns c = exchanged_file
