use Rattle.image_clearing.proofs.Others.{kept_at_down, ready_kept}
use Rattle.image_clearing.specs.Clearing.{domain_of, image_of, stage_of}
use Rattle.image_clearing.proofs.laws.clearing_knowledge_survives_others.Goals as goal

pub returns-clause-change : goal.returns-clause-change
returns-clause-change c clearing d e kept knows = ready_kept (domain_of clearing) (image_of clearing) d e kept (stage_of clearing) knows

pub returns-clause-down : goal.returns-clause-down
returns-clause-down c clearing other d e down settled knows =
    ready_kept (domain_of clearing) (image_of clearing) d e (kept_at_down (domain_of clearing) (image_of clearing) other d e down settled) (stage_of clearing) knows
