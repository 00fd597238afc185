use Rattle.shared_disk.proofs.Toolkit.{down_leaves_file}
use Rattle.qcow_layer.proofs.Knowing.{others_settled}
use Rattle.layer_placing.proofs.Dispatch.{stage_alone}
use Rattle.layer_placing.proofs.laws.placings_survive_others.Goals as goal

pub returns : goal.returns
returns c p host other l f d e apart down there knows =
    let alone = stage_alone l host f p.stage knows in
    down_leaves_file d e other l.target.place f down there (others_settled host other f apart alone.0 alone.1)
