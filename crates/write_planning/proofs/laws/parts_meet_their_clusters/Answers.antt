use Rattle.write_planning.proofs.Meeting.{inside_met, met_inside}
use Rattle.write_planning.proofs.laws.parts_meet_their_clusters.Goals as goal

pub returns : goal.returns
returns c at length width cluster part = (met_inside at length width cluster part, inside_met at length width cluster part)
