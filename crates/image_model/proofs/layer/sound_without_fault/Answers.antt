use Rattle.image_model.proofs.Faults.{sound_if_none}
use Rattle.image_model.proofs.layer.sound_without_fault.Goals as goal

pub returns-clause-none : goal.returns-clause-none
returns-clause-none c = sound_if_none
