use Rattle.chain_model.proofs.Flats.{backed_flat, backed_path}
use Rattle.chain_model.proofs.Settled.{path_backed}
use Rattle.chain_model.proofs.sectors.headers_tell_the_path.Goals as goal

pub returns-clause-path : goal.returns-clause-path
returns-clause-path c = backed_path

pub returns-clause-there : goal.returns-clause-there
returns-clause-there c = path_backed

pub returns-clause-sectors : goal.returns-clause-sectors
returns-clause-sectors c = backed_flat
