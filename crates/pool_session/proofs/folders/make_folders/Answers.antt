use Rattle.pool_session.proofs.FolderLemmas.{just_root}
use Rattle.pool_session.proofs.folders.make_folders.Goals as goal

pub returns-clause-content : goal.returns-clause-content
returns-clause-content g c d tells empty = c.make_dirs.ensures.content d tells (just_root d empty)
