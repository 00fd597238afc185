use Rattle.chain_gathering.proofs.Missing.{missing_first, missing_none}
use Rattle.chain_gathering.specs.Gathering.{folder, image}
use Rattle.chain_gathering.specs.Kept.{ids_found}
use Rattle.chain_gathering.specs.Knowing.{volumes_in}
use Rattle.chain_gathering.proofs.laws.missing_files_are_refused.Goals as goal

pub returns-clause-missing : goal.returns-clause-missing
returns-clause-missing c g kept d v rest is first = missing_first (image g) (volumes_in (folder g) d) (ids_found kept.found) kept.found v rest is.files first

pub returns-clause-none : goal.returns-clause-none
returns-clause-none c g kept d rest e is none first = missing_none (image g) (volumes_in (folder g) d) (ids_found kept.found) kept.found rest e is.files none first
