use Rattle.unsynced_laws.proofs.Unsynced.{crashed_elsewhere}
use Rattle.pool_making.proofs.Others.{ready_kept}
use Rattle.pool_making.specs.Layout.{metadata_of}
use Rattle.pool_making.specs.Making.{domain_of, stage_of, text_of}
use Rattle.pool_making.proofs.laws.make_knowledge_survives_crashes.Goals as goal

pub returns : goal.returns
returns c m host other d e down texts files knows =
    ready_kept (stage_of m) (domain_of m) (text_of m) host d e down.dirs (λ q. crashed_elsewhere d e other (metadata_of q) down (texts q))
    (λ q own. crashed_elsewhere d e other q down (files q own)) knows
