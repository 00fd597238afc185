use Rattle.image_model.proofs.Faults.{one_at_most}
use Rattle.image_model.proofs.layer.one_first_fault.Goals as goal

pub returns : goal.returns
returns c = one_at_most
