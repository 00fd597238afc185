use Rattle.image_creating.proofs.Unsynced.{leaves_only}
use Rattle.image_creating.specs.Creating.{stage_of, under_of}
use Rattle.image_creating.proofs.laws.creations_leave_only_theirs.Goals as goal

pub returns : goal.returns
returns c made host faults up turn d e call = leaves_only (stage_of made) (under_of made) host up faults turn d e call
