use Rattle.image_deleting.proofs.Unsynced.{leaves_only}
use Rattle.image_deleting.specs.Deleting.{stage_of, under_of}
use Rattle.image_deleting.proofs.laws.deletions_leave_only_theirs.Goals as goal

pub returns : goal.returns
returns c made host faults up turn d e call = leaves_only (stage_of made) (under_of made) host up faults turn d e call
