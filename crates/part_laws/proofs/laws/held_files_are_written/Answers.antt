use Rattle.part_laws.proofs.Held.{alike_written, same_written}
use Rattle.part_laws.proofs.laws.held_files_are_written.Goals as goal

pub returns-clause-alike : goal.returns-clause-alike
returns-clause-alike c = alike_written

pub returns-clause-same : goal.returns-clause-same
returns-clause-same c = same_written
