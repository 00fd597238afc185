use Rattle.image_deleting.proofs.Standing.{deleted_stays, stands_on_each}
use Rattle.image_deleting.proofs.laws.a_deleted_image_survives_crashes.Goals as goal

pub returns-clause-each : goal.returns-clause-each
returns-clause-each c s t host d is = stands_on_each s t host d is

pub returns-clause-deleted : goal.returns-clause-deleted
returns-clause-deleted c t d o is out = deleted_stays t 0 d o out is
