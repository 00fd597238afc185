-- What volumes become while one of their layers is lent.
use Rattle.std.specs.Prelude.{ℕ, List, slice_set}
use Rattle.std.specs.Borrow.{Lends, MutBor, Fml}
use Rattle.qcow_layer.specs.contracts.layer.Layer as layer
use Rattle.qcow_layer.specs.declared.layer.Layer.{Layer}
use Rattle.volume_chain.specs.Layers.{with_layer}
use Rattle.volume_chain.specs.contracts.volumes.OpenVolume as volume
use Rattle.volume_chain.specs.contracts.volumes.OpenVolumes as volumes
use Rattle.volume_chain.specs.declared.volumes.OpenVolume.{OpenVolume}
use Rattle.volume_chain.specs.declared.volumes.OpenVolume.TheVariants.{Cow}

-- a volume ends as the last layer behind what was lent
abbrev pub LendsLayer : MutBor OpenVolume → MutBor Layer → Fml
LendsLayer o l = Lends volume.the_row layer.the_row o l Cow

-- volumes end with the last volume behind what was lent at this index
abbrev pub LendsVolume : MutBor (List OpenVolume) → ℕ → MutBor OpenVolume → Fml
LendsVolume os k o = Lends volumes.the_row volume.the_row os o (slice_set os.now k)

-- and with the last layer
abbrev pub LendsLayerOf : MutBor (List OpenVolume) → ℕ → MutBor Layer → Fml
LendsLayerOf os k l = Lends volumes.the_row layer.the_row os l (with_layer os.now k)
