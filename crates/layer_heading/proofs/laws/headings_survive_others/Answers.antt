use Rattle.shared_disk.proofs.Toolkit.{down_leaves_file}
use Rattle.qcow_layer.proofs.Knowing.{others_settled}
use Rattle.layer_heading.proofs.Alone.{clearing_alone, rebasing_alone}
use Rattle.layer_heading.proofs.laws.headings_survive_others.Goals as goal

pub returns-clause-rebasing : goal.returns-clause-rebasing
returns-clause-rebasing c r host other l f d e apart down there knows =
    let alone = rebasing_alone r.backing l host f r.stage knows in
    down_leaves_file d e other l.target.place f down there (others_settled host other f apart alone.0 alone.1)

pub returns-clause-clearing : goal.returns-clause-clearing
returns-clause-clearing c work host other l f d e apart down there knows =
    let alone = clearing_alone l host f work.stage knows in
    down_leaves_file d e other l.target.place f down there (others_settled host other f apart alone.0 alone.1)
