use Rattle.chain_model.proofs.Covers.{others_read_alike}
use Rattle.chain_model.proofs.Flats.{flat_alike}
use Rattle.chain_model.proofs.sectors.sectors_read_alike.Goals as goal

pub returns-clause-all : goal.returns-clause-all
returns-clause-all c = flat_alike

pub returns-clause-covered : goal.returns-clause-covered
returns-clause-covered c = others_read_alike
