-- A step by its stage is one of the preparing.
use Rattle.std.proofs.Common.{◌≡◌, ℕ, sym, subst}
use Rattle.shared_disk.specs.Content.{Content, File}
use Rattle.qcow_layer.specs.declared.layer.Layer.{Layer}
use Rattle.volume_meta.specs.declared.record.VolumeRecord.{VolumeRecord}
use Rattle.chain_laws.specs.Laid.{Laying}
use Rattle.write_preparing.specs.Preparing.{KnowsStage, Prepares, StageFalls, StageTurn}
use Rattle.write_preparing.specs.declared.stage.Stage.{Stage}

pub in_stage : (w next : Layer) (l : Laying) (x : VolumeRecord) (host faults : ℕ) (turn : StageTurn) (f : File) (d e : Content) (s t : Stage) → s ≡ t
    → (KnowsStage t w l x host f → Prepares t w next l x host faults turn f d e) → KnowsStage s w l x host f → Prepares s w next l x host faults turn f d e
in_stage w next l x host faults turn f d e s t is step knows =
    subst (λ (a : Stage). Prepares a w next l x host faults turn f d e) (sym is) (step (subst (λ (a : Stage). KnowsStage a w l x host f) is knows))

pub falls_in : (pieces : ℕ) (turn : StageTurn) (s t : Stage) → s ≡ t → StageFalls pieces t turn → StageFalls pieces s turn
falls_in pieces turn s t is falls = subst (λ (a : Stage). StageFalls pieces a turn) (sym is) falls
