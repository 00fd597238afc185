use Rattle.chain_laws.proofs.Goes.{still_covered, written_itself, written_through}
use Rattle.chain_laws.proofs.laws.writes_go_on.Goals as goal

pub returns-clause-itself : goal.returns-clause-itself
returns-clause-itself c = written_itself

pub returns-clause-through : goal.returns-clause-through
returns-clause-through c = written_through

pub returns-clause-covered : goal.returns-clause-covered
returns-clause-covered c = still_covered
