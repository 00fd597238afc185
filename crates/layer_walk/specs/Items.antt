-- What stands at one position, as the code has it.
use Rattle.std.specs.Prelude.{◌≡◌, ℕ, ◌%◌, Some, None}
use Rattle.qcow_format.specs.declared.header.Header.{Header}
use Rattle.image_model.specs.File.{File}
use Rattle.image_model.specs.Layer.{Tables}
use Rattle.image_model.specs.Soundness as sound
use Rattle.layer_walk.specs.declared.item.Item.{Item}

-- a layer: its header, and the file that it stands in
abbrev pub layer_of : Header → File → Tables
layer_of header file = record { header = header; file = file }

-- the item of the definitions
abbrev pub item_of : Item → sound.Item
item_of x = record { at = x.at; wrong = x.wrong; name = x.name }

-- what an item without a fault of its own bits names begins a cluster
abbrev pub NamesCluster : ℕ → sound.Item → Type 0
NamesCluster cluster x = (place : ℕ) → x.wrong ≡ None → x.name ≡ Some place → place % cluster ≡ 0
