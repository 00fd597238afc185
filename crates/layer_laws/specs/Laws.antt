-- Sectors that change, and what stays of a layer.
use Rattle.std.specs.Prelude.{◌≡◌, ◌≢◌, ◌⊎◌, ℕ, ◌+◌, ◌-◌, ◌*◌, ◌/◌, ◌%◌, ◌^◌, ◌<◌, ◌≤◌, List, length, replicate, Some, None, Ok}
use Rattle.qcow_format.specs.declared.header.Header.{Header}
use Rattle.qcow_format.specs.declared.entry.Entry.TheVariants.{Data}
use Rattle.qcow_format.specs.Bytes.{number}
use Rattle.image_model.specs.File.{File}
use Rattle.image_model.specs.Layer.{Tables, entries, l1_clusters, block_place, block_span, count_of, entry_at, l1_entry, own_byte}
use Rattle.image_model.specs.Soundness.{IsSound, before_mapping, layer_header, names}

abbrev pub layer : Header → File → Tables
layer h file = record { header = h; file = file }

-- the sectors of a file are of 512 bytes
abbrev pub AreSectors : ℕ → (ℕ → List ℕ) → Type 0
AreSectors n s = (k : ℕ) → k < n → length (s k) ≡ 512

-- the sectors outside the cluster at a place are the same
abbrev pub SameOutside : ℕ → ℕ → (ℕ → List ℕ) → (ℕ → List ℕ) → Type 0
SameOutside p size s s' = (k : ℕ) → (k < p / 512) ⊎ ((p + size) / 512 ≤ k) → s' k ≡ s k

-- a place that no position names
abbrev pub IsUnnamed : Tables → ℕ → ℕ → Type 0
IsUnnamed t capacity p = (m : ℕ) → names t capacity m ≡ Some p → ⊥

-- another file is a layer as sound, which names and maps the same
pub record SameLayer (h : Header) (capacity : ℕ) (f g : File) : Type 0 where
  pub header : layer_header g capacity ≡ Ok h
  pub sound : IsSound g capacity
  pub named : (m : ℕ) → names (layer h g) capacity m ≡ names (layer h f) capacity m
  pub entries : (k : ℕ) → entry_at (layer h g) k ≡ entry_at (layer h f) k
  pub tables : (i : ℕ) → i < h.l1_size → l1_entry (layer h g) i ≡ l1_entry (layer h f) i
  pub blocks : (k : ℕ) → block_place (layer h g) k ≡ block_place (layer h f) k

-- which counts the same as well, and holds the same bytes
pub record SameContent (h : Header) (capacity : ℕ) (f g : File) : Type 0 where
  pub same : SameLayer h capacity f g
  pub counts : (x : ℕ) → count_of (layer h g) x ≡ count_of (layer h f) x
  pub bytes : (i : ℕ) → own_byte (layer h g) i ≡ own_byte (layer h f) i

-- the sectors of a file are the same but for one number of 2 bytes, the one with index w
pub record OnlyHalf (w : ℕ) (s s' : ℕ → List ℕ) : Type 0 where
  pub others : (k : ℕ) → k ≢ w / 256 → s' k ≡ s k
  pub rest : (m : ℕ) → m < 256 → m ≢ w % 256 → number 2 (m * 2) (s' (w / 256)) ≡ number 2 (m * 2) (s (w / 256))

-- which number of 2 bytes the count of a cluster is
abbrev pub count_index : Tables → ℕ → ℕ
count_index t x = block_place t (x / block_span t) / 2 + x % block_span t

-- the count of cluster x is another, and all else is as it was
pub record Recounted (h : Header) (capacity x count : ℕ) (f g : File) : Type 0 where
  pub same : SameLayer h capacity f g
  pub count_now : count_of (layer h g) x ≡ count
  pub counts_kept : (y : ℕ) → y ≢ x → count_of (layer h g) y ≡ count_of (layer h f) y
  pub bytes : (i : ℕ) → own_byte (layer h g) i ≡ own_byte (layer h f) i

-- counts that stand in block k are others, and all else is as it was
pub record BlockRecounted (h : Header) (capacity k : ℕ) (f g : File) : Type 0 where
  pub same : SameLayer h capacity f g
  pub counts_now : (x : ℕ) → x / block_span (layer h f) ≡ k → count_of (layer h g) x ≡ g.half (count_index (layer h f) x)
  pub counts_kept : (x : ℕ) → x / block_span (layer h f) ≢ k → count_of (layer h g) x ≡ count_of (layer h f) x
  pub bytes : (i : ℕ) → own_byte (layer h g) i ≡ own_byte (layer h f) i

-- the sectors of a file are the same but for one number of 8 bytes, the one with index w
pub record OnlyWord (w : ℕ) (s s' : ℕ → List ℕ) : Type 0 where
  pub others : (k : ℕ) → k ≢ w / 64 → s' k ≡ s k
  pub rest : (m : ℕ) → m < 64 → m ≢ w % 64 → number 8 (m * 8) (s' (w / 64)) ≡ number 8 (m * 8) (s (w / 64))

-- a place that no position but one names
abbrev pub IsNamedOnlyAt : Tables → ℕ → ℕ → ℕ → Type 0
IsNamedOnlyAt t capacity n p = (m : ℕ) → names t capacity m ≡ Some p → m ≡ n

-- the position of the entry of cluster k of the virtual disk
abbrev pub entry_position : Tables → ℕ → ℕ
entry_position t k = before_mapping t + k / entries t * (1 + entries t) + 1 + k % entries t

-- the entry of cluster k of the virtual disk is data at a place now, and all else is as it was
pub record Entered (h : Header) (capacity k place : ℕ) (f g : File) : Type 0 where
  pub header : layer_header g capacity ≡ Ok h
  pub sound : IsSound g capacity
  pub named : names (layer h g) capacity (entry_position (layer h f) k) ≡ Some place
  pub names_kept : (m : ℕ) → m ≢ entry_position (layer h f) k → names (layer h g) capacity m ≡ names (layer h f) capacity m
  pub entry : entry_at (layer h g) k ≡ Data place
  pub entries_kept : (m : ℕ) → m ≢ k → entry_at (layer h g) m ≡ entry_at (layer h f) m
  pub tables : (i : ℕ) → i < h.l1_size → l1_entry (layer h g) i ≡ l1_entry (layer h f) i
  pub blocks : (b : ℕ) → block_place (layer h g) b ≡ block_place (layer h f) b
  pub counts_kept : (x : ℕ) → count_of (layer h g) x ≡ count_of (layer h f) x
  pub bytes_kept : (i : ℕ) → i / 2 ^ h.cluster_bits ≢ k → own_byte (layer h g) i ≡ own_byte (layer h f) i
  pub bytes : (i : ℕ) → i / 2 ^ h.cluster_bits ≡ k → own_byte (layer h g) i ≡ Some (f.byte (place + i % 2 ^ h.cluster_bits))

-- the sectors from n up to n', which isn't among them, are zeros
abbrev pub AreZeros : ℕ → ℕ → (ℕ → List ℕ) → Type 0
AreZeros n n' s = (k : ℕ) → n ≤ k → k < n' → s k ≡ replicate 512 0

-- a header but for what it says of the backing file, and for the features that a writer clears
abbrev pub plain : Header → Header
plain h = record h { backing_file_offset = 0; backing_file_size = 0; autoclear_features = 0; name = (0, 0); format_at = None; format = None }

-- another file is a layer as sound with another backing file
pub record Rebased (h h' : Header) (capacity : ℕ) (f g : File) : Type 0 where
  pub sound : IsSound g capacity
  pub named : (m : ℕ) → names (layer h' g) capacity m ≡ names (layer h f) capacity m
  pub entries : (k : ℕ) → entry_at (layer h' g) k ≡ entry_at (layer h f) k
  pub blocks : (k : ℕ) → block_place (layer h' g) k ≡ block_place (layer h f) k
  pub counts : (x : ℕ) → count_of (layer h' g) x ≡ count_of (layer h f) x
  pub bytes : (i : ℕ) → own_byte (layer h' g) i ≡ own_byte (layer h f) i

-- a position names another place now, and all that the layer says of the virtual disk is as it was
pub record Placed (h : Header) (capacity here place : ℕ) (f g : File) : Type 0 where
  pub header : layer_header g capacity ≡ Ok h
  pub sound : IsSound g capacity
  pub named : names (layer h g) capacity here ≡ Some place
  pub names_kept : (m : ℕ) → m ≢ here → names (layer h g) capacity m ≡ names (layer h f) capacity m
  pub entries : (k : ℕ) → entry_at (layer h g) k ≡ entry_at (layer h f) k
  pub bytes : (i : ℕ) → own_byte (layer h g) i ≡ own_byte (layer h f) i

-- the position of L1 entry i, and of entry k of the refcount table
abbrev pub l1_position : Tables → ℕ → ℕ
l1_position t i = before_mapping t + i * (1 + entries t)

abbrev pub block_position : Tables → ℕ → ℕ
block_position t k = 1 + l1_clusters t + t.header.refcount_table_clusters + k

-- the position of entry j of the L2 table behind L1 entry i
abbrev pub l2_position : Tables → ℕ → ℕ → ℕ
l2_position t i j = l1_position t i + 1 + j

-- the bytes of cluster k of the virtual disk are others now, which stand at a place, and all else is as it was
pub record Overwritten (h : Header) (capacity k p : ℕ) (f g : File) : Type 0 where
  pub same : SameLayer h capacity f g
  pub counts : (x : ℕ) → count_of (layer h g) x ≡ count_of (layer h f) x
  pub bytes_kept : (i : ℕ) → i / 2 ^ h.cluster_bits ≢ k → own_byte (layer h g) i ≡ own_byte (layer h f) i
  pub bytes : (i : ℕ) → i / 2 ^ h.cluster_bits ≡ k → own_byte (layer h g) i ≡ Some (g.byte (p + i % 2 ^ h.cluster_bits))

-- a header with another size and L1 table
abbrev pub with_l1 : Header → ℕ → ℕ → Header
with_l1 h size l1_size = record h { size = size; l1_size = l1_size }
