use Rattle.raw_layer.proofs.Steps.{read_outcome, write_outcome}
use Rattle.raw_layer.proofs.laws.outcomes_after_a_step.Goals as goal

pub returns-clause-read : goal.returns-clause-read
returns-clause-read c = read_outcome

pub returns-clause-write : goal.returns-clause-write
returns-clause-write c = write_outcome
