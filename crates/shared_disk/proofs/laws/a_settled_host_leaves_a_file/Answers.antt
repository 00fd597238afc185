use Rattle.shared_disk.proofs.NameOutcomes.{down_same}
use Rattle.shared_disk.proofs.Toolkit.{down_leaves_file, down_leaves_none}
use Rattle.shared_disk.proofs.laws.a_settled_host_leaves_a_file.Goals as goal

pub returns-clause-file : goal.returns-clause-file
returns-clause-file c host f g settled down = down_same host f g settled.loose settled.fresh down

pub returns-clause-there : goal.returns-clause-there
returns-clause-there c = down_leaves_file

pub returns-clause-none : goal.returns-clause-none
returns-clause-none c = down_leaves_none
