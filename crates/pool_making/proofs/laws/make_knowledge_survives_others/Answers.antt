use Rattle.pool_making.proofs.Others.{ready_kept}
use Rattle.pool_making.specs.Making.{domain_of, stage_of, text_of}
use Rattle.pool_making.proofs.laws.make_knowledge_survives_others.Goals as goal

pub returns : goal.returns
returns c m host d e dirs texts files knows = ready_kept (stage_of m) (domain_of m) (text_of m) host d e dirs texts files knows
