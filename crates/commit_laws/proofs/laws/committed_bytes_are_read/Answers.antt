use Rattle.commit_laws.proofs.Alike.{reads_alike}
use Rattle.commit_laws.proofs.laws.committed_bytes_are_read.Goals as goal

pub returns : goal.returns
returns c = reads_alike
