-- What a chain becomes while a layer of its path is lent.
use Rattle.std.specs.Prelude.{ℕ}
use Rattle.std.specs.Borrow.{Lends, MutBor, Fml}
use Rattle.qcow_layer.specs.contracts.layer.Layer as layer
use Rattle.qcow_layer.specs.declared.layer.Layer.{Layer}
use Rattle.volume_chain.specs.Layers.{with_layer}
use Rattle.volume_chain.specs.contracts.chain.Chain as chain
use Rattle.volume_chain.specs.declared.chain.Chain.{Chain}

-- the chain with this layer for the volume of the path with an index
abbrev pub with_layer_at : Chain → ℕ → Layer → Chain
with_layer_at c k l = record c { volumes = with_layer c.volumes k l }

-- a chain ends with the last layer behind what was lent for the volume with this index
abbrev pub LendsLayerAt : MutBor Chain → ℕ → MutBor Layer → Fml
LendsLayerAt c k l = Lends chain.the_row layer.the_row c l (with_layer_at c.now k)
