use Rattle.clearing_laws.proofs.Cleared.{begins, still}
use Rattle.clearing_laws.proofs.laws.clearings_begin.Goals as goal

pub returns-clause-known : goal.returns-clause-known
returns-clause-known c x w host f knows well cow capacity = begins x w host f knows well cow capacity

pub returns-clause-still : goal.returns-clause-still
returns-clause-still c x h f g either well comes = still x h f g either well comes
