use Rattle.unsynced_laws.proofs.Unsynced.{folder_gone, folder_made, folder_moved}
use Rattle.unsynced_laws.proofs.laws.folders_have_none.Goals as goal

pub returns-clause-made : goal.returns-clause-made
returns-clause-made c = folder_made

pub returns-clause-removed : goal.returns-clause-removed
returns-clause-removed c = folder_gone

pub returns-clause-moved : goal.returns-clause-moved
returns-clause-moved c = folder_moved
