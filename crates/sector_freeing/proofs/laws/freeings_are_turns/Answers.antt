use Rattle.sector_freeing.proofs.Machine.{freeing_turns}
use Rattle.sector_freeing.proofs.laws.freeings_are_turns.Goals as goal

pub returns : goal.returns
returns c h faults up v k l tally steps x ms sd turn d e p recovers kept did = freeing_turns h faults up v k l tally steps x ms sd d e p recovers kept turn did
