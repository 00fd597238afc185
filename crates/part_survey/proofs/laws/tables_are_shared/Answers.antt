use Rattle.part_survey.proofs.Finding.{shared}
use Rattle.part_survey.proofs.laws.tables_are_shared.Goals as goal

pub returns : goal.returns
returns c = shared
