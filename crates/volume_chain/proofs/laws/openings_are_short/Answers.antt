use Rattle.volume_chain.proofs.Bounds.{begun_short, known_tables, positions, stage_falls}
use Rattle.volume_chain.proofs.laws.openings_are_short.Goals as goal

pub returns-clause-falls : goal.returns-clause-falls
returns-clause-falls c o next cost heads tables along falls meets fit fewer enters opens = stage_falls cost heads tables along fewer o.stage next.stage falls meets fit enters opens

pub returns-clause-begun : goal.returns-clause-begun
returns-clause-begun c o sd id version n names heads tables path begun short = begun_short o sd id version n names heads tables path begun short

pub returns-clause-known : goal.returns-clause-known
returns-clause-known c o host x d heads tables knows have = known_tables o.stage host x d heads tables knows have

pub returns-clause-positions : goal.returns-clause-positions
returns-clause-positions c o heads fit has = positions o.stage heads fit has
