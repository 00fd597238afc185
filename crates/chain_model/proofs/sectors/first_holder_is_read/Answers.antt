use Rattle.chain_model.proofs.Held.{reads_first, reads_zeros}
use Rattle.chain_model.proofs.sectors.first_holder_is_read.Goals as goal

pub returns-clause-held : goal.returns-clause-held
returns-clause-held c = reads_first

pub returns-clause-zeros : goal.returns-clause-zeros
returns-clause-zeros c = reads_zeros
