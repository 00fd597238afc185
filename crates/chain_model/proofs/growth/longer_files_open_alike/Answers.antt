use Rattle.chain_model.proofs.LongerImages.{fault_kept, openable_kept}
use Rattle.chain_model.proofs.growth.longer_files_open_alike.Goals as goal

pub returns-clause-openable : goal.returns-clause-openable
returns-clause-openable c = openable_kept

pub returns-clause-refused : goal.returns-clause-refused
returns-clause-refused c = fault_kept
