use Rattle.chain_gathering.proofs.Records.{gathered_read}
use Rattle.chain_gathering.proofs.laws.gathered_records_are_read.Goals as goal

pub returns : goal.returns
returns c g kept d is = gathered_read g.target kept d is
