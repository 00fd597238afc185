use Rattle.write_planning.proofs.Needs.{wants_need}
use Rattle.write_planning.proofs.laws.plans_want_what_a_write_needs.Goals as goal

pub returns : goal.returns
returns c p r tells = wants_need p r tells
