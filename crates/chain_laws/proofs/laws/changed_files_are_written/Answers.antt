use Rattle.chain_laws.proofs.Outcomes.{changed_comes}
use Rattle.chain_laws.proofs.laws.changed_files_are_written.Goals as goal

pub returns : goal.returns
returns c = changed_comes
