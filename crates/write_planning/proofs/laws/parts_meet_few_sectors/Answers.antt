use Rattle.std.proofs.Common.{arith}
use Rattle.write_planning.proofs.Meeting.{few_met}
use Rattle.write_planning.proofs.laws.parts_meet_few_sectors.Goals as goal

pub returns : goal.returns
returns c s =
    let few = few_met s.at s.length s.width s.part in
    (omega arith, few, omega arith, omega (arith, few), omega arith)
