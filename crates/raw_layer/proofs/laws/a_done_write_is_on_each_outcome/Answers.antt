use Rattle.raw_layer.proofs.Steps.{done_on_each}
use Rattle.raw_layer.proofs.laws.a_done_write_is_on_each_outcome.Goals as goal

pub returns : goal.returns
returns c = done_on_each
