use Rattle.layer_writing.proofs.Known.{comes_itself, comes_through}
use Rattle.layer_writing.proofs.laws.holding_goes_on.Goals as goal

pub returns-clause-itself : goal.returns-clause-itself
returns-clause-itself c h capacity f = comes_itself h capacity f

pub returns-clause-through : goal.returns-clause-through
returns-clause-through c h capacity f g k a b = comes_through h capacity f g k a b
