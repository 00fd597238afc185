use Rattle.write_planning.proofs.Tables.{each_given, table_counted, tables_apart}
use Rattle.write_planning.proofs.Targets.{new_apart, new_wanted}
use Rattle.write_planning.proofs.laws.taken_clusters_are_given_once.Goals as goal

pub returns-clause-data : goal.returns-clause-data
returns-clause-data c p j m lt is = new_wanted p j m is lt

pub returns-clause-data_apart : goal.returns-clause-data_apart
returns-clause-data_apart c p i j m one two = new_apart p i j m one two

pub returns-clause-tables : goal.returns-clause-tables
returns-clause-tables c p sector m lt is = table_counted p sector m lt is

pub returns-clause-tables_apart : goal.returns-clause-tables_apart
returns-clause-tables_apart c p s t m one two = tables_apart p s t m one two

pub returns-clause-each : goal.returns-clause-each
returns-clause-each c p m lt = each_given p m lt
