use Rattle.pool_model.proofs.Roles.{role_frame}
use Rattle.pool_model.proofs.laws.roles_move_alone.Goals as goal

pub returns : goal.returns
returns c = role_frame
