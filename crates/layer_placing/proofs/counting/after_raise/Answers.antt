use Rattle.std.proofs.Common.{refl}
use Rattle.layer_placing.proofs.counting.after_raise.Goals as goal

pub returns-then-upto-count-clause-next : goal.returns-then-upto-count-clause-next
returns-then-upto-count-clause-next c = (_, refl, refl, refl)
