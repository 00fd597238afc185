use Rattle.commit_steps.proofs.Commits.{is_part, piece_laid, piece_reads}
use Rattle.commit_steps.proofs.laws.pieces_may_be_written.Goals as goal

pub returns-clause-part : goal.returns-clause-part
returns-clause-part c = is_part

pub returns-clause-reads : goal.returns-clause-reads
returns-clause-reads c l chain sub cluster x host start from p part d k = piece_reads l chain sub cluster x host start from d k p part

pub returns-clause-laid : goal.returns-clause-laid
returns-clause-laid c l chain sub cluster x host start from p part d k = piece_laid l chain sub cluster x host start from d k p part
