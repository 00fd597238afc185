use Rattle.commit_laws.proofs.Alike.{others_read}
use Rattle.commit_laws.proofs.laws.commits_leave_other_volumes.Goals as goal

pub returns : goal.returns
returns c = others_read
