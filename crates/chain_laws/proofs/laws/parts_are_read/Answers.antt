use Rattle.chain_laws.proofs.Mixed.{laid_flats, laid_reads}
use Rattle.chain_laws.proofs.laws.parts_are_read.Goals as goal

pub returns-clause-flats : goal.returns-clause-flats
returns-clause-flats c = laid_flats

pub returns-clause-reads : goal.returns-clause-reads
returns-clause-reads c = laid_reads
