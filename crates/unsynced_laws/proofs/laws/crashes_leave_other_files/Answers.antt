use Rattle.unsynced_laws.proofs.Files.{file_of_others}
use Rattle.unsynced_laws.proofs.Unsynced.{crashed_elsewhere}
use Rattle.unsynced_laws.proofs.laws.crashes_leave_other_files.Goals as goal

pub returns-clause-itself : goal.returns-clause-itself
returns-clause-itself c = file_of_others

pub returns-clause-there : goal.returns-clause-there
returns-clause-there c = crashed_elsewhere
