use Rattle.shared_disk.proofs.WellFormed.{seen_sector}
use Rattle.shared_disk.proofs.WellFormedFolders.{empty_is_well_formed, new_folder_is_empty}
use Rattle.shared_disk.proofs.laws.what_is_well_formed.Goals as goal

pub returns-clause-new : goal.returns-clause-new
returns-clause-new c = new_folder_is_empty

pub returns-clause-seen : goal.returns-clause-seen
returns-clause-seen c = seen_sector

pub returns-clause-empty : goal.returns-clause-empty
returns-clause-empty c = empty_is_well_formed
