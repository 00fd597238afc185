-- The layers among the open volumes of a path.
use Rattle.std.specs.Prelude.{◌≡◌, ℕ, List, slice_get, slice_set, Some}
use Rattle.qcow_layer.specs.declared.layer.Layer.{Layer}
use Rattle.volume_chain.specs.declared.volumes.OpenVolume.{OpenVolume}
use Rattle.volume_chain.specs.declared.volumes.OpenVolume.TheVariants.{Raw, Cow}

abbrev pub IsLayer : OpenVolume → Type 0
IsLayer (Raw length) = ⊥
IsLayer (Cow l) = Unit {0}

-- the volume with this index is a layer
abbrev pub IsLayerAt : List OpenVolume → ℕ → Type 0
IsLayerAt os k = (l : Layer) × (slice_get os k ≡ Some (Cow l))

-- these volumes with this layer at an index
abbrev pub with_layer : List OpenVolume → ℕ → Layer → List OpenVolume
with_layer os k l = slice_set os k (Cow l)
