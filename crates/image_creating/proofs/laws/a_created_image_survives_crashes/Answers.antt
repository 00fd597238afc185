use Rattle.image_creating.proofs.Standing.{created_stays, standing_on_each}
use Rattle.image_creating.proofs.laws.a_created_image_survives_crashes.Goals as goal

pub returns-clause-each : goal.returns-clause-each
returns-clause-each c t x host d is = standing_on_each t x host d is

pub returns-clause-created : goal.returns-clause-created
returns-clause-created c t x host d o is out = created_stays t x host d o out is
