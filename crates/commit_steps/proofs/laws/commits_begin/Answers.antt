use Rattle.commit_steps.proofs.Commits.{begins, top_read}
use Rattle.commit_steps.proofs.laws.commits_begin.Goals as goal

pub returns-clause-begin : goal.returns-clause-begin
returns-clause-begin c = begins

pub returns-clause-read : goal.returns-clause-read
returns-clause-read c = top_read
