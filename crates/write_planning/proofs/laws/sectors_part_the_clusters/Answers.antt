use Rattle.write_planning.specs.Span.{count_of, first_of}
use Rattle.write_planning.proofs.Sectors.{has_sector, in_sector}
use Rattle.write_planning.proofs.laws.sectors_part_the_clusters.Goals as goal

pub returns-clause-one : goal.returns-clause-one
returns-clause-one c s j lt = has_sector (first_of s) (count_of s) j lt

pub returns-clause-group : goal.returns-clause-group
returns-clause-group c s sector j low high = in_sector s sector j low high
