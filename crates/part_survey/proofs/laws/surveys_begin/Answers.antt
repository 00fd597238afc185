use Rattle.part_survey.proofs.Finding.{begins}
use Rattle.part_survey.proofs.laws.surveys_begin.Goals as goal

pub returns : goal.returns
returns c = begins
