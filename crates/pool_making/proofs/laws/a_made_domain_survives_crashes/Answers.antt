use Rattle.pool_making.proofs.Parts.{domain_stays, on_each}
use Rattle.pool_making.proofs.laws.a_made_domain_survives_crashes.Goals as goal

pub returns-clause-whole : goal.returns-clause-whole
returns-clause-whole c sd text d o is out = domain_stays sd text d o is out

pub returns-clause-either : goal.returns-clause-either
returns-clause-either c sd text d is = on_each sd text d is
