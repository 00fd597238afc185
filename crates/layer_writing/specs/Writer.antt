-- What is known of a layer's file to the host that writes it.
use Rattle.std.specs.Prelude.{◌≡◌, ℕ, ◌*◌, ◌%◌, ◌^◌, ◌<◌, not, None, Some}
use Rattle.shared_disk.specs.Content.{Content, File}
use Rattle.shared_disk.specs.Crash.{IsAlone, OnEach}
use Rattle.image_model.specs.Layer.{Tables, is_used}
use Rattle.image_model.specs.Soundness.{IsSound}
use Rattle.layer_laws.specs.Laws as laws
use Rattle.qcow_layer.specs.Knowing.{KnowsLayer, is_free, mapped}
use Rattle.qcow_layer.specs.Opening.{capacity_kept, header_kept, place_kept, target_kept, work_kept}
use Rattle.qcow_layer.specs.declared.layer.Layer.{Layer}
use Rattle.layer_writing.specs.Holding.{IsLike, as_seen, on_medium}

-- the layer as its host sees it
abbrev pub seen_tables : Layer → ℕ → File → Tables
seen_tables layer host f = laws.layer (header_kept layer) (as_seen host f)

-- The layer knows its file, which is of whole clusters. On each outcome it is the layer that the host sees: header, backing
-- file, names, entries, tables and blocks. So all that is unsynced are bytes of clusters, and counts of those that nothing
-- names.
pub record KnowsWriter (layer : Layer) (host : ℕ) (f : File) : Type 0 where
  pub knows : KnowsLayer layer host f
  pub whole : 512 * f.size % 2 ^ (header_kept layer).cluster_bits ≡ 0
  pub each : OnEach f (λ g. IsLike (header_kept layer) (capacity_kept layer) (as_seen host f) (on_medium g))

-- so it is of the file at the layer's place
pub record KnowsWriterOn (layer : Layer) (host : ℕ) (d : Content) : Type 0 where
  pub file : File
  pub there : d.file (place_kept layer) ≡ Some file
  pub knows : KnowsWriter layer host file

-- What is left where a step was ended by a fault of the disk: no other host writes in the file, which is a sound layer on
-- each outcome. The layer's map counts for nothing then: the file is opened anew.
pub record IsLeft (layer : Layer) (host : ℕ) (f : File) : Type 0 where
  pub alone : IsAlone host f
  pub made : f.fresh ≡ None
  pub sound : OnEach f (λ g. IsSound (on_medium g) (capacity_kept layer))

-- A second layer is of the same file, with a map of the same clusters. Its header, its parent and its capacity may be others,
-- and so may which clusters are free.
pub record IsSameFile (layer next : Layer) : Type 0 where
  pub place : place_kept next ≡ place_kept layer
  pub greatest : (target_kept next).greatest ≡ (target_kept layer).greatest
  pub length : (work_kept next).marks.size ≡ (work_kept layer).marks.size
  pub mapped : mapped next ≡ mapped layer
  pub bits : (header_kept next).cluster_bits ≡ (header_kept layer).cluster_bits

-- the map of a layer says which clusters aren't used, of a file as its host sees it
abbrev pub MapTells : Layer → Tables → Type 0
MapTells layer t = (c : ℕ) → c < mapped layer → is_free layer c ≡ not (is_used t c)
