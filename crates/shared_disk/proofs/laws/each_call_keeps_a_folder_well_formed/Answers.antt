use Rattle.shared_disk.proofs.WellFormed.{create_keeps, down_keeps, exchange_keeps, grow_keeps, outcome_keeps, remove_keeps, rename_keeps, sync_keeps, write_keeps}
use Rattle.shared_disk.proofs.WellFormedFolders.{make_dir_keeps, move_dir_keeps, remove_dir_keeps}
use Rattle.shared_disk.proofs.laws.each_call_keeps_a_folder_well_formed.Goals as goal

pub returns-clause-write_at : goal.returns-clause-write_at
returns-clause-write_at c = write_keeps

pub returns-clause-sync : goal.returns-clause-sync
returns-clause-sync c = sync_keeps

pub returns-clause-create : goal.returns-clause-create
returns-clause-create c = create_keeps

pub returns-clause-grow : goal.returns-clause-grow
returns-clause-grow c = grow_keeps

pub returns-clause-exchange : goal.returns-clause-exchange
returns-clause-exchange c = exchange_keeps

pub returns-clause-rename : goal.returns-clause-rename
returns-clause-rename c = rename_keeps

pub returns-clause-remove : goal.returns-clause-remove
returns-clause-remove c = remove_keeps

pub returns-clause-make_dir : goal.returns-clause-make_dir
returns-clause-make_dir c = make_dir_keeps

pub returns-clause-remove_dir : goal.returns-clause-remove_dir
returns-clause-remove_dir c = remove_dir_keeps

pub returns-clause-move_dir : goal.returns-clause-move_dir
returns-clause-move_dir c = move_dir_keeps

pub returns-clause-down : goal.returns-clause-down
returns-clause-down c = down_keeps

pub returns-clause-outcome : goal.returns-clause-outcome
returns-clause-outcome c = outcome_keeps
