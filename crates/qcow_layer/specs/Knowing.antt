-- What an opened layer knows of its file, as its host sees it and as a crash may leave it.
use Rattle.std.specs.Prelude.{◌≡◌, ℕ, ◌*◌, ◌^◌, ◌<◌, ◌≤◌, max, Bool, not, Some, None, Ok}
use Rattle.shared_disk.specs.Content.{Content, File, seen}
use Rattle.shared_disk.specs.Crash.{IsAlone, OnEach}
use Rattle.qcow_format.specs.Name.{backing_id}
use Rattle.image_model.specs.File.{file_of}
use Rattle.image_model.specs.File as image
use Rattle.image_model.specs.Layer.{is_used}
use Rattle.image_model.specs.Soundness.{IsSound, layer_header}
use Rattle.layer_walk.specs.Bits.{room_of}
use Rattle.layer_walk.specs.Known.{tables_of}
use Rattle.layer_walk.specs.Marks.{free_by, map_size}
use Rattle.qcow_layer.specs.Stages.{roof}
use Rattle.qcow_layer.specs.declared.layer.Layer.{Layer}

-- how many clusters the layer's map has, and whether it says that one is free
abbrev pub mapped : Layer → ℕ
mapped layer = room_of layer.work.marks.free

abbrev pub is_free : Layer → ℕ → Bool
is_free layer c = free_by layer.work.marks c

-- what is known of the numbers in a file
pub record KnowsNumbers (layer : Layer) (file : image.File) : Type 0 where
  pub header : layer_header file layer.target.capacity ≡ Ok layer.work.header
  pub parent : layer.work.parent ≡ backing_id layer.work.header file.head
  pub sound : IsSound file layer.target.capacity
  pub used : (c : ℕ) → c < mapped layer → is_free layer c ≡ not (is_used (tables_of layer.work file) c)

-- No other host writes in the file, which was synced since it was made. The layer is sound as its host sees it and on each
-- outcome; its header and its parent are those that the host sees, and in its map those clusters are free that aren't used.
-- The map has the clusters of the file as long as it was when its length was asked, and those of one for the greatest
-- capacity.
pub record KnowsLayer (layer : Layer) (host : ℕ) (f : File) : Type 0 where
  pub alone : IsAlone host f
  pub made : f.fresh ≡ None
  pub numbers : KnowsNumbers layer (file_of f.size (seen host f))
  pub each : OnEach f (λ g. IsSound (file_of g.size g.stable) layer.target.capacity)
  pub long : layer.work.marks.size ≤ 512 * f.size
  pub fits : 512 * f.size < 2 ^ 64
  pub map : mapped layer ≡ map_size (max layer.work.marks.size (roof layer.target.greatest)) (2 ^ layer.work.header.cluster_bits)

-- so it is of the file at the layer's place
pub record KnowsLayerOn (layer : Layer) (host : ℕ) (d : Content) : Type 0 where
  pub file : File
  pub there : d.file layer.target.place ≡ Some file
  pub knows : KnowsLayer layer host file
