use Rattle.raw_writing.proofs.Steps.{begins}
use Rattle.raw_writing.proofs.laws.writings_begin.Goals as goal

pub returns : goal.returns
returns c = begins
