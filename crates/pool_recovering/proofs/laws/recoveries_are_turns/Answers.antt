use Rattle.pool_recovering.proofs.Turns.{recovery_turns}
use Rattle.pool_recovering.proofs.laws.recoveries_are_turns.Goals as goal

pub returns : goal.returns
returns c h faults up v k l tally steps x ms master tasks turn d e p recovers kept done = recovery_turns h faults up v k l tally steps x ms master tasks d e p recovers kept turn done
