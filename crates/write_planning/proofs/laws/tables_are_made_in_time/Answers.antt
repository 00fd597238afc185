use Rattle.write_planning.proofs.Tables.{table_made, table_wanting}
use Rattle.write_planning.proofs.laws.tables_are_made_in_time.Goals as goal

pub returns-clause-made : goal.returns-clause-made
returns-clause-made c p r sector j tells has lt low high none = table_made p r sector j tells has lt low high none

pub returns-clause-wanting : goal.returns-clause-wanting
returns-clause-wanting c p r sector j m tells has lt low high is = table_wanting p r sector j m tells has low high is
