use Rattle.layer_laws.proofs.Heads.{parent_kept}
use Rattle.layer_laws.proofs.laws.keep_parent.Goals as goal

pub returns : goal.returns
returns c n capacity p s s' h are is whole some same = parent_kept n p capacity s s' h are is whole some same
