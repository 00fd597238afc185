-- A host that writes a head is alone in the file.
use Rattle.std.proofs.Common.{◌≡◌, ℕ, None}
use Rattle.shared_disk.specs.Content.{File}
use Rattle.shared_disk.specs.Crash.{IsAlone}
use Rattle.qcow_layer.specs.declared.layer.Layer.{Layer}
use Rattle.layer_creating.specs.declared.backing.Backing.{Backing}
use Rattle.layer_heading.specs.Clearing.{KnowsStage}
use Rattle.layer_heading.specs.Rebasing.{KnowsIn}
use Rattle.layer_heading.specs.Writing.{IsQuiet}
use Rattle.layer_heading.specs.declared.clearing_stage.ClearingStage.{ClearingStage}
use Rattle.layer_heading.specs.declared.clearing_stage.ClearingStage.TheVariants as clearing
use Rattle.layer_heading.specs.declared.rebasing.Stage.{Stage}
use Rattle.layer_heading.specs.declared.rebasing.Stage.TheVariants.{Begun, Named, Synced, Laid, Headed}

quiet_alone : (l : Layer) (host : ℕ) (f : File) → IsQuiet l host f → IsAlone host f × (f.fresh ≡ None)
quiet_alone l host f quiet = (quiet.writer.knows.alone, quiet.writer.knows.made)

pub rebasing_alone : (backing : Backing) (l : Layer) (host : ℕ) (f : File) (s : Stage) → KnowsIn s backing l host f → IsAlone host f × (f.fresh ≡ None)
rebasing_alone backing l host f Begun k = quiet_alone l host f k
rebasing_alone backing l host f Named k = (k.2.between.alone, k.2.between.made)
rebasing_alone backing l host f Synced k = quiet_alone l host f k.quiet
rebasing_alone backing l host f (Laid sector) k = quiet_alone l host f k.0.quiet
rebasing_alone backing l host f Headed k = (k.2.between.alone, k.2.between.made)

pub clearing_alone : (l : Layer) (host : ℕ) (f : File) (c : ClearingStage) → KnowsStage l host c f → IsAlone host f × (f.fresh ≡ None)
clearing_alone l host f clearing.Begun k = quiet_alone l host f k
clearing_alone l host f (clearing.Laid sector) k = quiet_alone l host f k.0
clearing_alone l host f clearing.Headed k = (k.3.between.alone, k.3.between.made)
