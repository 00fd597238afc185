use Rattle.plan_laws.proofs.Places.{plan_table}
use Rattle.plan_laws.proofs.laws.tables_of_a_plan_may_be_made.Goals as goal

pub returns : goal.returns
returns c = plan_table
