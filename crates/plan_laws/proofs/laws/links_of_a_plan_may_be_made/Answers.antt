use Rattle.plan_laws.proofs.Places.{plan_links}
use Rattle.plan_laws.proofs.laws.links_of_a_plan_may_be_made.Goals as goal

pub returns : goal.returns
returns c = plan_links
