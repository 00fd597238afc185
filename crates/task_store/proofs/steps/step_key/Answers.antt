use Rattle.std.proofs.Common.{refl}
use Rattle.task_store.proofs.steps.step_key.Goals as goal

pub returns : goal.returns
returns c = refl
