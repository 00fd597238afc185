-- A layer's file while its header loses the features that a writer clears.
use Rattle.std.specs.Prelude.{◌⊎◌}
use Rattle.shared_disk.specs.Content.{File}
use Rattle.shared_disk.specs.Crash.{OnEach}
use Rattle.qcow_format.specs.declared.header.Header.{Header}
use Rattle.volume_meta.specs.declared.record.VolumeRecord.{VolumeRecord}
use Rattle.image_model.specs.Soundness.{IsSound}
use Rattle.layer_laws.specs.Laws.{layer}
use Rattle.layer_heading.specs.Cleared.{cleared}
use Rattle.layer_writing.specs.Holding.{on_medium}
use Rattle.own_laws.specs.Sectors.{IsLayerOf}
use Rattle.write_planning.specs.declared.plan.WritePlan.{WritePlan}
use Rattle.part_survey.specs.Survey.{HasFound}

-- the file of a volume's layer, which is sound and has this header, or this one without the features
pub record IsEither (x : VolumeRecord) (h : Header) (f : File) : Type 0 where
  pub layer : IsLayerOf x h f ⊎ IsLayerOf x (cleared h) f
  pub sound : IsSound (on_medium f) x.capacity

-- so it is on each outcome
abbrev pub AreEither : VolumeRecord → Header → File → Type 0
AreEither x h f = OnEach f (IsEither x h)

-- what was found of a part's clusters is what the layer says on each outcome
abbrev pub IsFoundOnEach : WritePlan → Header → File → Type 0
IsFoundOnEach p h f = OnEach f (λ o. HasFound p (layer h (on_medium o)))
