use Rattle.chain_records.proofs.Opening.{opened_by_records, refused_by_files, refused_by_layers, refused_by_records}
use Rattle.chain_records.proofs.laws.records_refuse_as_the_opening.Goals as goal

pub returns-clause-records : goal.returns-clause-records
returns-clause-records c = refused_by_records

pub returns-clause-layers : goal.returns-clause-layers
returns-clause-layers c = refused_by_layers

pub returns-clause-openable : goal.returns-clause-openable
returns-clause-openable c = opened_by_records

pub returns-clause-files : goal.returns-clause-files
returns-clause-files c = refused_by_files
