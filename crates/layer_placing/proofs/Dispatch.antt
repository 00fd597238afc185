-- A step of the stage that a placing is in.
use Rattle.std.proofs.Common.{◌≡◌, ℕ, None, sym, subst}
use Rattle.shared_disk.specs.Crash.{IsAlone}
use Rattle.sd_names.specs.declared.turn.Turn.{Turn}
use Rattle.shared_disk.specs.Content.{Content, File}
use Rattle.qcow_layer.specs.declared.layer.Layer.{Layer}
use Rattle.layer_placing.specs.Knows.{KnowsIn, StepsIn}
use Rattle.layer_placing.specs.declared.clusters.Clusters.{Clusters}
use Rattle.layer_placing.specs.declared.stage.Stage.{Stage}
use Rattle.layer_placing.specs.declared.stage.Stage.TheVariants.{Begun, Counting, Entered, Finding, Raising, Settled, Zeroed, Zeroing}

pub in_stage : (l m : Layer) (host faults : ℕ) (turn : Turn Stage Clusters (Unit {0})) (f : File) (d e : Content) (s t : Stage) → s ≡ t → (KnowsIn l host f t → StepsIn l m host faults t turn f d e)
    → KnowsIn l host f s → StepsIn l m host faults s turn f d e
in_stage l m host faults turn f d e s t is step knows = subst (λ x. StepsIn l m host faults x turn f d e) (sym is) (step (subst (λ x. KnowsIn l host f x) is knows))

-- in each stage the host is alone in the file
pub stage_alone : (l : Layer) (host : ℕ) (f : File) (s : Stage) → KnowsIn l host f s → IsAlone host f × (f.fresh ≡ None)
stage_alone l host f (Begun asked) k = (k.knows.alone, k.knows.made)
stage_alone l host f (Finding w) k = (k.writer.knows.alone, k.writer.knows.made)
stage_alone l host f (Counting w block) k = (k.ready.writer.knows.alone, k.ready.writer.knows.made)
stage_alone l host f (Raising r) k = (k.has.ready.writer.knows.alone, k.has.ready.writer.knows.made)
stage_alone l host f (Zeroing w table piece) k = (k.0.ready.writer.knows.alone, k.0.ready.writer.knows.made)
stage_alone l host f (Zeroed w table) k = (k.ready.writer.knows.alone, k.ready.writer.knows.made)
stage_alone l host f (Settled w table) k = (k.0.ready.writer.knows.alone, k.0.ready.writer.knows.made)
stage_alone l host f (Entered w block) k = (k.alone, k.made)
