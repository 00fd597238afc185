use Rattle.task_settling.proofs.Turns.{settling_turns}
use Rattle.task_settling.proofs.laws.settlings_are_turns.Goals as goal

pub returns : goal.returns
returns c h faults up v k l tally steps x ms task turn d e p recovers kept done = settling_turns h faults up v k l tally steps x ms task d e p recovers kept turn done
