use Rattle.std.proofs.Common.{[], replicate, arith}
use Rattle.shared_disk.proofs.Sectors.{sector_of_zeros}
use Rattle.chain_reading.proofs.laying.lay_zeros.Goals as goal

pub returns : goal.returns
returns c inside = (replicate 65536 0, λ j few. sector_of_zeros [] 65536 j (omega arith) (omega (arith, few)), c.lay.ensures inside)
