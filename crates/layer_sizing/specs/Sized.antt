-- A layer of a larger capacity (qcow2 specification, "Header": size and l1_size; "Cluster mapping").
use Rattle.std.specs.Prelude.{◌≡◌, ◌⊎◌, ℕ, ◌+◌, ◌-◌, ◌*◌, ◌/◌, ◌^◌, ◌<◌, ◌≤◌, min, max, List, Some, None, Ok}
use Rattle.qcow_format.specs.Bytes.{bytes_of, put}
use Rattle.qcow_format.specs.Name.{backing_id}
use Rattle.qcow_format.specs.declared.header.Header.{Header}
use Rattle.qcow_format.specs.declared.entry.Entry.TheVariants.{Absent}
use Rattle.image_model.specs.File as image
use Rattle.image_model.specs.Layer.{Tables, block_place, count_of, entry_at, l1_entry, own_byte}
use Rattle.image_model.specs.Soundness.{IsSound, layer_header, names}
use Rattle.layer_laws.specs.Laws.{layer, with_l1}

abbrev pub cluster : Header → ℕ
cluster h = 2 ^ h.cluster_bits

-- how many bytes of the virtual disk one L1 entry maps
abbrev pub span : Header → ℕ
span h = cluster h / 8 * cluster h

-- how many L1 entries the table's clusters hold
abbrev pub entries_held : Header → ℕ
entries_held h = (8 * h.l1_size + (cluster h - 1)) / cluster h * (cluster h / 8)

-- the greatest capacity that a layer can get: what the whole clusters of its L1 table can map, at most 1 TiB
abbrev pub bound : Header → ℕ
bound h = min (entries_held h * span h) (2 ^ 40)

-- how many L1 entries map a capacity, where those that there are stay
abbrev pub l1_size_for : Header → ℕ → ℕ
l1_size_for h capacity = max h.l1_size ((capacity + (span h - 1)) / span h)

-- the header of the layer with a capacity, which has the tables at the same places; a size that is larger stays
abbrev pub sized : Header → ℕ → Header
sized h capacity = with_l1 h (max h.size capacity) (l1_size_for h capacity)

-- the first sector with the size and the length for a capacity, in bytes 24 to 31 and 36 to 39; all others are as they were
abbrev pub sized_sector : Header → ℕ → List ℕ → List ℕ
sized_sector h capacity first = put 36 (bytes_of 4 (l1_size_for h capacity)) (put 24 (bytes_of 8 (max h.size capacity)) first)

-- the entries of the L1 table up to a number that come into use name nothing
abbrev pub AreFree : Tables → ℕ → Type 0
AreFree t entries = (i : ℕ) → t.header.l1_size ≤ i → i < entries → l1_entry t i ≡ Ok None

-- past a capacity the layer holds nothing but zeros
abbrev pub IsEmptyPast : Tables → ℕ → Type 0
IsEmptyPast t capacity = (i : ℕ) → capacity ≤ i → (own_byte t i ≡ None) ⊎ (own_byte t i ≡ Some 0)

-- A second file has the same layer below a capacity: header, parent, names, entries, counts and the bytes below it. The rest
-- of its last cluster is as it was, or zeros.
pub record IsZeroing (h : Header) (capacity : ℕ) (f g : image.File) : Type 0 where
  pub header : layer_header g capacity ≡ Ok h
  pub parent : backing_id h g.head ≡ backing_id h f.head
  pub sound : IsSound g capacity
  pub named : (m : ℕ) → names (layer h g) capacity m ≡ names (layer h f) capacity m
  pub entries : (k : ℕ) → entry_at (layer h g) k ≡ entry_at (layer h f) k
  pub blocks : (k : ℕ) → block_place (layer h g) k ≡ block_place (layer h f) k
  pub counts : (x : ℕ) → count_of (layer h g) x ≡ count_of (layer h f) x
  pub below : (i : ℕ) → i < capacity → own_byte (layer h g) i ≡ own_byte (layer h f) i
  pub rest : (i : ℕ) → capacity ≤ i → (own_byte (layer h g) i ≡ own_byte (layer h f) i) ⊎ (own_byte (layer h g) i ≡ Some 0)

-- A second file is the layer of the larger capacity: it has the new header, its entries are those of the first, the entries
-- that come into use are absent, the bytes below the old capacity are as they were, and the rest of the cluster in which it
-- ended is zeros where the layer holds it.
pub record IsSized (h : Header) (capacity larger : ℕ) (f g : image.File) : Type 0 where
  pub header : layer_header g larger ≡ Ok (sized h larger)
  pub parent : backing_id (sized h larger) g.head ≡ backing_id h f.head
  pub sound : IsSound g larger
  pub named : (m : ℕ) → names (layer (sized h larger) g) larger m ≡ names (layer h f) capacity m
  pub entries : (k : ℕ) → entry_at (layer (sized h larger) g) k ≡ entry_at (layer h f) k
  pub fresh : (k : ℕ) → capacity ≤ k * cluster h → entry_at (layer (sized h larger) g) k ≡ Absent
  pub tables : (i : ℕ) → h.l1_size ≤ i → i < l1_size_for h larger → l1_entry (layer (sized h larger) g) i ≡ Ok None
  pub blocks : (k : ℕ) → block_place (layer (sized h larger) g) k ≡ block_place (layer h f) k
  pub counts : (x : ℕ) → count_of (layer (sized h larger) g) x ≡ count_of (layer h f) x
  pub below : (i : ℕ) → i < capacity → own_byte (layer (sized h larger) g) i ≡ own_byte (layer h f) i
  pub rest : (i : ℕ) → capacity ≤ i → (own_byte (layer (sized h larger) g) i ≡ None) ⊎ (own_byte (layer (sized h larger) g) i ≡ Some 0)

-- what a step may make of a file: nothing, the layer with zeros, or the layer of the larger capacity
abbrev pub IsOldOrSized : Header → ℕ → ℕ → image.File → image.File → Type 0
IsOldOrSized h capacity larger f g = (g ≡ f) ⊎ (IsZeroing h capacity f g ⊎ IsSized h capacity larger f g)
