use Rattle.std.proofs.Common.{sym, subst}
use Rattle.chain_model.specs.Records.{records_of}
use Rattle.chain_gathering.specs.Knowing.{volumes_in}
use Rattle.chain_settling.proofs.Opened.{is_known}
use Rattle.chain_settling.specs.Steps.{KnowsStage}
use Rattle.chain_settling.specs.Was.{folder_in, image_kept}
use Rattle.chain_settling.specs.declared.stages.Stage.{Stage}
use Rattle.chain_settling.proofs.laws.open_chains_are_known.Goals as goal

pub returns : goal.returns
returns c chain s host d is_open formed names room begins =
    subst (λ (z : Stage). KnowsStage z host (records_of (image_kept chain) (volumes_in (folder_in chain) d)) (volumes_in (folder_in chain) d) d) (sym begins.stage)
    (is_known chain host d is_open formed room names begins.tidying begins.begun)
