use Rattle.commit_steps.proofs.Commits.{all_held, others}
use Rattle.commit_steps.proofs.laws.other_volumes_stay.Goals as goal

pub returns-clause-held : goal.returns-clause-held
returns-clause-held c l chain sub cluster x host start from d k = all_held l chain sub cluster x host start from d k

pub returns-clause-others : goal.returns-clause-others
returns-clause-others c = others
