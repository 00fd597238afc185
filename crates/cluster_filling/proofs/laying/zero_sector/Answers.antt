use Rattle.std.proofs.Common.{[], ◌∙◌, arith}
use Rattle.shared_disk.proofs.Sectors.{sector_of_zeros}
use Rattle.cluster_filling.proofs.laying.zero_sector.Goals as goal

pub returns-clause-here : goal.returns-clause-here
returns-clause-here c = c.copy_sector.ensures.here ∙ sector_of_zeros [] 512 0 (omega arith) (omega arith)
