use Rattle.commit_laws.proofs.Pieces.{next, stays, whole_held, written}
use Rattle.commit_laws.proofs.laws.pieces_make_a_part.Goals as goal

pub returns-clause-written : goal.returns-clause-written
returns-clause-written c = written

pub returns-clause-stays : goal.returns-clause-stays
returns-clause-stays c = stays

pub returns-clause-next : goal.returns-clause-next
returns-clause-next c = next

pub returns-clause-whole : goal.returns-clause-whole
returns-clause-whole c = whole_held
