use Rattle.clearing_laws.proofs.Cleared.{found_still}
use Rattle.clearing_laws.proofs.laws.clearings_keep_what_was_found.Goals as goal

pub returns : goal.returns
returns c = found_still
