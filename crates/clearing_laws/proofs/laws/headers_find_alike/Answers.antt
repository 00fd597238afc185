use Rattle.clearing_laws.proofs.Cleared.{find_cleared, find_old}
use Rattle.clearing_laws.proofs.laws.headers_find_alike.Goals as goal

pub returns : goal.returns
returns c p h f = (find_cleared p h f, find_old p h f)
