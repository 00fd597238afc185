-- The map of an opened layer's clusters, for those who write it.
use Rattle.std.specs.Prelude.{◌≡◌, ◌≢◌, ℕ, ◌<◌, ◌≤◌, true, false, Option, Some, None}
use Rattle.sd_names.specs.declared.id.Id.{Id}
use Rattle.qcow_format.specs.declared.header.Header.{Header}
use Rattle.qcow_layer.specs.Knowing.{is_free, mapped}
use Rattle.qcow_layer.specs.declared.layer.Layer.{Layer}

-- another layer is the same but for which clusters are free in its map
pub record IsSameButMap (layer next : Layer) : Type 0 where
  pub target : next.target ≡ layer.target
  pub header : next.work.header ≡ layer.work.header
  pub parent : next.work.parent ≡ layer.work.parent
  pub length : next.work.marks.size ≡ layer.work.marks.size
  pub mapped : mapped next ≡ mapped layer

-- the layer with a cluster that is taken, and all others as they were
pub record IsTaken (layer : Layer) (cluster : ℕ) (next : Layer) : Type 0 where
  pub same : IsSameButMap layer next
  pub here : is_free next cluster ≡ false
  pub others : (c : ℕ) → c ≢ cluster → is_free next c ≡ is_free layer c

-- the least free cluster of the map from `first` on below `end`, or that it has none there
abbrev pub IsLeastFree : Layer → ℕ → ℕ → Option ℕ → Type 0
IsLeastFree layer first end None = (c : ℕ) → first ≤ c → c < end → c < mapped layer → is_free layer c ≡ false
IsLeastFree layer first end (Some cluster) =
    (first ≤ cluster) × (cluster < end) × (cluster < mapped layer) × (is_free layer cluster ≡ true) × ((c : ℕ) → first ≤ c → c < cluster → is_free layer c ≡ false)

-- ---- its header and its capacity

-- another header has the same clusters, with the tables at the same places
pub record HasSameGrid (h next : Header) : Type 0 where
  pub bits : next.cluster_bits ≡ h.cluster_bits
  pub l1 : next.l1_table_offset ≡ h.l1_table_offset
  pub table : next.refcount_table_offset ≡ h.refcount_table_offset

-- the layer with another header and parent
pub record IsWithHeader (layer : Layer) (header : Header) (parent : Option Id) (next : Layer) : Type 0 where
  pub target : next.target ≡ layer.target
  pub header_is : next.work.header ≡ header
  pub parent_is : next.work.parent ≡ parent
  pub marks : next.work.marks ≡ layer.work.marks

-- the layer with another capacity
pub record IsWithCapacity (layer : Layer) (capacity : ℕ) (next : Layer) : Type 0 where
  pub target : next.target ≡ record layer.target { capacity = capacity }
  pub work : next.work ≡ layer.work
