use Rattle.commit_steps.proofs.Commits.{piece_comes, piece_committed, whole}
use Rattle.commit_steps.proofs.laws.pieces_are_committed.Goals as goal

pub returns-clause-comes : goal.returns-clause-comes
returns-clause-comes c = piece_comes

pub returns-clause-next : goal.returns-clause-next
returns-clause-next c = piece_committed

pub returns-clause-whole : goal.returns-clause-whole
returns-clause-whole c = whole
