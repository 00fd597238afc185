use Rattle.write_filling.proofs.Since.{since_begun, since_written}
use Rattle.write_filling.proofs.laws.volumes_hold_since_the_begin.Goals as goal

pub returns-clause-begun : goal.returns-clause-begun
returns-clause-begun c = since_begun

pub returns-clause-written : goal.returns-clause-written
returns-clause-written c = since_written
