use Rattle.pool_model.proofs.Clearing.{clear_stands}
use Rattle.pool_model.proofs.laws.tasks_go_by_their_files.Goals as goal

pub returns : goal.returns
returns c = clear_stands
