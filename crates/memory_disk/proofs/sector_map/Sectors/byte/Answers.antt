use Rattle.std.proofs.Common.{sym}
use Rattle.memory_disk.specs.Sectors.{sector_at}
use Rattle.memory_disk.proofs.Placing.{zero_byte}
use Rattle.memory_disk.proofs.sector_map.Sectors.byte.Goals as goal

pub returns-in-None : goal.returns-in-None
returns-in-None c = zero_byte (sector_at c.args.self.now 0 c.args.file c.args.sector) c.args.at c.requires (sym c.in-None.ensures)
