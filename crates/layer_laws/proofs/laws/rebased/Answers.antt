use Rattle.layer_laws.proofs.Rebases.{rebased}
use Rattle.layer_laws.proofs.laws.rebased.Goals as goal

pub returns : goal.returns
returns c n capacity s s' h h' is is' same outside sound = rebased n capacity s s' h is sound outside h' is' same
