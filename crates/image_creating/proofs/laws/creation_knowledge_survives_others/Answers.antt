use Rattle.image_creating.proofs.Others.{kept_at_down, ready_kept}
use Rattle.image_creating.specs.Creating.{stage_of, under_of}
use Rattle.image_creating.proofs.laws.creation_knowledge_survives_others.Goals as goal

pub returns-clause-change : goal.returns-clause-change
returns-clause-change c made x host d e kept knows =
    ready_kept c.task_knowledge_survives_others.ensures c.image_knowledge_survives_others.ensures (under_of made) x host d e kept (stage_of made) knows

pub returns-clause-down : goal.returns-clause-down
returns-clause-down c made x host other d e down settled knows =
    ready_kept c.task_knowledge_survives_others.ensures c.image_knowledge_survives_others.ensures (under_of made) x host d e (kept_at_down (under_of made) x other d e down settled) (stage_of made) knows
