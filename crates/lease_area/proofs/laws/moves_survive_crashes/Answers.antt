use Rattle.lease_area.proofs.Surviving.{survives}
use Rattle.lease_area.proofs.laws.moves_survive_crashes.Goals as goal

pub returns : goal.returns
returns c d e o sd slot bytes new stands moved out = survives d e o sd slot bytes new stands moved out
