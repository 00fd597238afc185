-- Entries of one sector of an L2 table that become data, and what stays of the layer.
use Rattle.std.specs.Prelude.{◌≡◌, ◌≢◌, ◌⊎◌, ℕ, zero, suc, ◌+◌, ◌*◌, ◌/◌, ◌%◌, ◌^◌, ◌<◌, ◌≤◌, ◌==◌, if◌then◌else◌, List, replicate, Option, Some, None, Result, Ok}
use Rattle.sd_names.specs.declared.fault.LayerFault.{LayerFault}
use Rattle.qcow_format.specs.Bytes.{bytes_of, put}
use Rattle.qcow_format.specs.Entry.{offset_in, word_of}
use Rattle.qcow_format.specs.Name.{backing_id}
use Rattle.qcow_format.specs.declared.header.Header.{Header}
use Rattle.qcow_format.specs.declared.entry.Entry.{Entry}
use Rattle.qcow_format.specs.declared.entry.Entry.TheVariants.{Data}
use Rattle.image_model.specs.File.{File}
use Rattle.image_model.specs.Layer.{Tables, block_place, cluster_size, count_of, entries, entry_at, l1_at, l1_entry, l2_at, own_byte}
use Rattle.image_model.specs.Soundness.{IsSound, layer_header, names}
use Rattle.layer_laws.specs.Laws.{IsNamedOnlyAt, IsUnnamed, entry_position, layer}

-- ---- what is entered: `to k` is the place of cluster k of the virtual disk, or None where it gets none

-- A cluster of the file by its place: the place begins it, lies in the file, is one that an entry can name, and the cluster
-- has a count.
pub record IsCounted (t : Tables) (place : ℕ) : Type 0 where
  pub begins : place % cluster_size t ≡ 0
  pub fits : place < t.file.size
  pub low : place < 2 ^ 56
  pub counted : 0 < count_of t (place / cluster_size t)

-- The clusters that get a place have their entries in one sector of an L2 table, 64 of them, and lie below the capacity. No
-- place is given twice, and none is named by anything but the entry that is to name it, which may keep it for zeros.
pub record AreLinks (t : Tables) (capacity group : ℕ) (to : ℕ → Option ℕ) : Type 0 where
  pub sector : (k place : ℕ) → to k ≡ Some place → k / 64 ≡ group
  pub inside : (k place : ℕ) → to k ≡ Some place → k * cluster_size t < capacity
  pub counted : (k place : ℕ) → to k ≡ Some place → IsCounted t place
  pub free : (k place : ℕ) → to k ≡ Some place → IsNamedOnlyAt t capacity (entry_position t k) place
  pub once : (j k place : ℕ) → to j ≡ Some place → to k ≡ Some place → j ≡ k

-- A place for a new L2 table: a cluster with a count that nothing names, and that isn't given to an entry.
pub record IsNewTable (t : Tables) (capacity : ℕ) (to : ℕ → Option ℕ) (table : ℕ) : Type 0 where
  pub counted : IsCounted t table
  pub unnamed : IsUnnamed t capacity table
  pub other : (k : ℕ) → to k ≡ Some table → ⊥

-- the L1 entry behind which the entries of such a sector stand, and which of its table's sectors it is
abbrev pub row_of : Tables → ℕ → ℕ
row_of t group = 64 * group / entries t

abbrev pub sector_at : Tables → ℕ → ℕ → ℕ
sector_at t table group = l2_at table (64 * group % entries t) / 512

-- ---- the sector

-- a sector with the m-th entry laid in, where there is a place for it
abbrev pub lay : Option ℕ → ℕ → List ℕ → List ℕ
lay None m bytes = bytes
lay (Some place) m bytes = put (m * 8) (bytes_of 8 (word_of (Data place))) bytes

-- a sector with the first so many of its entries laid in; its first entry is that of a cluster `first`
unfoldable pub laid : (ℕ → Option ℕ) → ℕ → ℕ → List ℕ → List ℕ
laid to first zero bytes = bytes
laid to first (suc m) bytes = lay (to (first + m)) m (laid to first m bytes)

-- the sectors of a file are the same but for one, in which all entries are laid
pub record IsLaid (to : ℕ → Option ℕ) (first sector : ℕ) (s s' : ℕ → List ℕ) : Type 0 where
  pub here : s' sector ≡ laid to first 64 (s sector)
  pub others : (k : ℕ) → k ≢ sector → s' k ≡ s k

-- the sectors of the cluster at a place are zeros but for one, in which all entries are laid
pub record IsFilled (to : ℕ → Option ℕ) (first sector place size : ℕ) (s : ℕ → List ℕ) : Type 0 where
  pub here : s sector ≡ laid to first 64 (replicate 512 0)
  pub others : (k : ℕ) → place / 512 ≤ k → k < (place + size) / 512 → k ≢ sector → s k ≡ replicate 512 0

-- the word of an L1 entry that names a table: its offset, and bit 63 for a refcount of exactly one
abbrev pub l1_word : ℕ → ℕ
l1_word table = 2 ^ 63 + offset_in table

-- ---- what stays

-- an entry, an L1 entry and a byte where a place may be given
abbrev pub entry_with : Option ℕ → Entry → Entry
entry_with None entry = entry
entry_with (Some place) entry = Data place

abbrev pub table_with : Option ℕ → Result (Option ℕ) LayerFault → Result (Option ℕ) LayerFault
table_with None entry = entry
table_with (Some table) entry = Ok (Some table)

abbrev pub byte_with : File → Option ℕ → ℕ → Option ℕ → Option ℕ
byte_with f None offset byte = byte
byte_with f (Some place) offset byte = Some (f.byte (place + offset))

-- a place that is given
abbrev pub IsAmong : (ℕ → Option ℕ) → ℕ → Type 0
IsAmong to place = (k : ℕ) × (to k ≡ Some place)

-- No L1 entry gets a table, or entry i alone.
abbrev pub no_table : ℕ → Option ℕ
no_table _ = None

abbrev pub one_table : ℕ → ℕ → ℕ → Option ℕ
one_table i table m = if m == i then Some table else None

-- The entries of these clusters are data at their places now, and these L1 entries name these tables; all else is as it was.
-- The bytes of a cluster that got a place are those that stood there.
pub record Linked (h : Header) (capacity : ℕ) (to behind : ℕ → Option ℕ) (f g : File) : Type 0 where
  pub size : g.size ≡ f.size
  pub header : layer_header g capacity ≡ Ok h
  pub parent : backing_id h g.head ≡ backing_id h f.head
  pub sound : IsSound g capacity
  pub entries : (k : ℕ) → entry_at (layer h g) k ≡ entry_with (to k) (entry_at (layer h f) k)
  pub tables : (i : ℕ) → i < h.l1_size → l1_entry (layer h g) i ≡ table_with (behind i) (l1_entry (layer h f) i)
  pub blocks : (b : ℕ) → block_place (layer h g) b ≡ block_place (layer h f) b
  pub counts : (x : ℕ) → count_of (layer h g) x ≡ count_of (layer h f) x
  pub names : (m place : ℕ) → names (layer h g) capacity m ≡ Some place → (names (layer h f) capacity m ≡ Some place) ⊎ (IsAmong to place ⊎ IsAmong behind place)
  pub bytes : (i : ℕ) → own_byte (layer h g) i ≡ byte_with f (to (i / 2 ^ h.cluster_bits)) (i % 2 ^ h.cluster_bits) (own_byte (layer h f) i)
  -- what stands in a cluster that nothing but an entry names, or nothing at all, stays there, unless it becomes a table
  pub stands : (k place offset : ℕ) → place % 2 ^ h.cluster_bits ≡ 0 → IsNamedOnlyAt (layer h f) capacity (entry_position (layer h f) k) place → (IsAmong behind place → ⊥)
      → offset < 2 ^ h.cluster_bits → g.byte (place + offset) ≡ f.byte (place + offset)
  -- bit 63 of what was written says that the refcount is exactly one
  pub words : (k place table : ℕ) → to k ≡ Some place → l1_entry (layer h g) (k / (2 ^ h.cluster_bits / 8)) ≡ Ok (Some table)
      → g.word (l2_at table (k % (2 ^ h.cluster_bits / 8)) / 8) ≡ word_of (Data place)
  pub l1_words : (i table : ℕ) → behind i ≡ Some table → g.word (l1_at (layer h f) i / 8) ≡ l1_word table
