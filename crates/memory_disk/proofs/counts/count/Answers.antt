use Rattle.std.proofs.Common.{arith}
use Rattle.memory_disk.proofs.counts.count.Goals as goal

pub returns-in-Err-Failed-clause-no_less : goal.returns-in-Err-Failed-clause-no_less
returns-in-Err-Failed-clause-no_less c = omega (arith, c.bump.ensures, c.requires)
