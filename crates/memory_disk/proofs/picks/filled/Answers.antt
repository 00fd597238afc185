use Rattle.std.proofs.Common.{arith}
use Rattle.memory_disk.proofs.Settling.{byte_sector}
use Rattle.memory_disk.proofs.picks.filled.Goals as goal

pub returns : goal.returns
returns c = byte_sector c.args.byte (omega arith)
