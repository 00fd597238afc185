use Rattle.image_making.proofs.Kept.{ready_kept}
use Rattle.image_making.specs.Making.{image_of, stage_of}
use Rattle.image_making.proofs.laws.image_knowledge_survives_others.Goals as goal

pub returns : goal.returns
returns c m host d e above folder files knows = ready_kept (image_of m) host d e above folder files (stage_of m) knows
