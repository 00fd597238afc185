use Rattle.image_deleting.proofs.Others.{image_at_down, kept_at_down, ready_kept}
use Rattle.image_deleting.specs.Deleting.{stage_of, under_of}
use Rattle.image_deleting.proofs.laws.deletion_knowledge_survives_others.Goals as goal

pub returns-clause-change : goal.returns-clause-change
returns-clause-change c made host d e kept image knows =
    ready_kept c.task_knowledge_survives_others.ensures c.removal_knowledge_survives_others.ensures (under_of made) host d e kept (stage_of made) image knows

pub returns-clause-down : goal.returns-clause-down
returns-clause-down c made host other d e down settled knows =
    ready_kept c.task_knowledge_survives_others.ensures c.removal_knowledge_survives_others.ensures (under_of made) host d e (kept_at_down (under_of made) other d e down settled) (stage_of made)
    (image_at_down (under_of made) other d e down settled (stage_of made)) knows
