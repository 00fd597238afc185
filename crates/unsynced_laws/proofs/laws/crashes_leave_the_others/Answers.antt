use Rattle.unsynced_laws.proofs.Unsynced.{crashed}
use Rattle.unsynced_laws.proofs.laws.crashes_leave_the_others.Goals as goal

pub returns : goal.returns
returns c = crashed
