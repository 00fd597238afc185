use Rattle.image_removing.proofs.Kept.{knows_kept}
use Rattle.image_removing.specs.Removing.{own_folder, removed_folder, stage_of}
use Rattle.image_removing.proofs.laws.removal_knowledge_survives_others.Goals as goal

pub returns : goal.returns
returns c r d e own removed files k = knows_kept (own_folder r) (removed_folder r) d e own removed files (stage_of r) k
