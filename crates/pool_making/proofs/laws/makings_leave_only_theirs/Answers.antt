use Rattle.pool_making.specs.Making.{stage_of}
use Rattle.pool_making.proofs.Unsynced.{leaves_only}
use Rattle.pool_making.proofs.laws.makings_leave_only_theirs.Goals as goal

pub returns : goal.returns
returns c m host faults turn d e call = leaves_only m (stage_of m) host faults turn d e call
