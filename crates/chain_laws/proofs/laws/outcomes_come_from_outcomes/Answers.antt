use Rattle.chain_laws.proofs.Outcomes.{comes_itself, comes_through, laid_outcomes, mixed_outcomes}
use Rattle.chain_laws.proofs.laws.outcomes_come_from_outcomes.Goals as goal

pub returns-clause-itself : goal.returns-clause-itself
returns-clause-itself c = comes_itself

pub returns-clause-through : goal.returns-clause-through
returns-clause-through c = comes_through

pub returns-clause-mixed : goal.returns-clause-mixed
returns-clause-mixed c = mixed_outcomes

pub returns-clause-laid : goal.returns-clause-laid
returns-clause-laid c = laid_outcomes
