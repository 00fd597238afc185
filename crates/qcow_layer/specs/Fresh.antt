-- The layer of a file that is made anew, before it is read.
use Rattle.std.specs.Prelude.{◌≡◌, ℕ, ◌^◌, ◌<◌, max, not, Option}
use Rattle.sd_names.specs.declared.id.Id.{Id}
use Rattle.sd_names.specs.declared.place.Place.{Place}
use Rattle.layer_walk.specs.Bits.{room_of}
use Rattle.layer_walk.specs.Marks.{free_by, map_size}
use Rattle.layer_walk.specs.declared.marks.Marks.{Marks}
use Rattle.layer_creating.specs.New.{HasBytes, is_used_new, new_header, parent_of}
use Rattle.layer_creating.specs.declared.backing.Backing.{Backing}
use Rattle.qcow_layer.specs.Opening.{capacity_kept, header_kept, parent_kept, place_kept, target_kept, volume_kept, work_kept}
use Rattle.qcow_layer.specs.Stages.{roof}
use Rattle.qcow_layer.specs.declared.layer.Layer.{Layer}

-- the map of a new layer: the tables' clusters and the first of each range are used
pub record IsNewMap (length most : ℕ) (m : Marks) : Type 0 where
  pub size : m.size ≡ length
  pub room : room_of m.free ≡ map_size (max length most) 65_536
  pub free : (c : ℕ) → c < room_of m.free → free_by m c ≡ not (is_used_new c)

-- the layer that the making of a file of so many bytes leaves
pub record IsFresh (layer : Layer) (id : Id) (at : Place) (capacity greatest : ℕ) (backing : Option Backing) (length : ℕ) : Type 0 where
  pub volume : volume_kept layer ≡ id
  pub place : place_kept layer ≡ at
  pub capacity_is : capacity_kept layer ≡ capacity
  pub greatest_is : (target_kept layer).greatest ≡ greatest
  pub header : header_kept layer ≡ new_header capacity backing
  pub parent : parent_kept layer ≡ parent_of backing
  pub bytes : HasBytes backing
  pub map : IsNewMap length (roof greatest) (work_kept layer).marks
  pub fits : length < 2 ^ 64
