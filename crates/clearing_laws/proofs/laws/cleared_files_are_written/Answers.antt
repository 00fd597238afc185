use Rattle.clearing_laws.proofs.Cleared.{written}
use Rattle.clearing_laws.proofs.laws.cleared_files_are_written.Goals as goal

pub returns : goal.returns
returns c = written
