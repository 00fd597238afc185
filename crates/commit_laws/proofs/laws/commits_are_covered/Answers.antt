use Rattle.commit_laws.proofs.Covers.{covered}
use Rattle.commit_laws.proofs.laws.commits_are_covered.Goals as goal

pub returns : goal.returns
returns c = covered
