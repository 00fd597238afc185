use Rattle.part_laws.proofs.Files.{raw_part_held, raw_written}
use Rattle.part_laws.proofs.laws.raw_files_are_written.Goals as goal

pub returns-clause-written : goal.returns-clause-written
returns-clause-written c = raw_written

pub returns-clause-held : goal.returns-clause-held
returns-clause-held c = raw_part_held
