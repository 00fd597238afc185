use Rattle.chain_model.proofs.LongerImages.{backing_kept, flats_kept, grown_is_longer, own_kept}
use Rattle.chain_model.proofs.growth.longer_files_read_alike.Goals as goal

pub returns-clause-own : goal.returns-clause-own
returns-clause-own c = own_kept

pub returns-clause-flats : goal.returns-clause-flats
returns-clause-flats c = flats_kept

pub returns-clause-named : goal.returns-clause-named
returns-clause-named c = backing_kept

pub returns-clause-grown : goal.returns-clause-grown
returns-clause-grown c = grown_is_longer
