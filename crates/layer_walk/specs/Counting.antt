-- The counts of a layer's clusters, taken into a map of them: what the map says meanwhile, and what a sector changes.
use Rattle.std.specs.Prelude.{◌≡◌, ◌≢◌, ◌⊎◌, ℕ, ◌+◌, ◌-◌, ◌*◌, ◌/◌, ◌%◌, ◌^◌, ◌<◌, ◌≤◌, max, Bool, true, false, not, nat_lt, ◌==◌, ◌&&◌, if◌then◌else◌, List, Option, Some, None}
use Rattle.std.specs.Int.{div_ceil}
use Rattle.std.specs.Option.{is_some}
use Rattle.qcow_format.specs.Bytes.{number}
use Rattle.qcow_format.specs.declared.header.Header.{Header}
use Rattle.image_model.specs.File.{File}
use Rattle.image_model.specs.Layer.{Tables, block_place, block_span, block_word, cluster_size, count_of, entries, is_used}
use Rattle.layer_walk.specs.Bits.{room_of}
use Rattle.layer_walk.specs.Marks.{KeepsFile, free_by}
use Rattle.layer_walk.specs.declared.count.Count.{Count}
use Rattle.layer_walk.specs.declared.count.Count.TheVariants.{Block, Row}
use Rattle.layer_walk.specs.declared.count.Spot.{Spot}
use Rattle.layer_walk.specs.declared.marks.Marks.{Marks}

-- a layer: its header, and the file that it stands in
abbrev pub counts_in : Header → File → Tables
counts_in header file = record { header = header; file = file }

abbrev pub table_entries : Tables → ℕ
table_entries t = t.header.refcount_table_clusters * entries t

-- ---- what the map says

-- a named cluster below `next` has the count 0; its place
pub record IsUncounted (t : Tables) (room : ℕ) (named : ℕ → Bool) (next place : ℕ) : Type 0 where
  pub cluster : ℕ
  pub below : cluster < next
  pub inside : cluster < room
  pub is_named : named cluster ≡ true
  pub none : count_of t cluster ≡ 0
  pub at : place ≡ cluster * cluster_size t

-- The bit of a cluster whose count is taken in: that it isn't used, and once a named cluster with the count 0 was met, that it
-- isn't one.
abbrev pub counted_bit : Tables → (ℕ → Bool) → Option ℕ → ℕ → Bool
counted_bit t named None c = not (is_used t c)
counted_bit t named (Some place) c = not (named c && count_of t c == 0)

-- the bits of the clusters below `next` are those, and from there on each tells whether its cluster isn't named
pub record HasBits (t : Tables) (room : ℕ) (named free : ℕ → Bool) (noted : Option ℕ) (next : ℕ) : Type 0 where
  pub below : (c : ℕ) → c < next → c < room → free c ≡ counted_bit t named noted c
  pub above : (c : ℕ) → next ≤ c → c < room → free c ≡ not (named c)

-- a named cluster below `next` with the count 0 is noted, or there is none
pub record HasNote (t : Tables) (room : ℕ) (named : ℕ → Bool) (noted : Option ℕ) (next : ℕ) : Type 0 where
  pub fine : noted ≡ None → (c : ℕ) → c < next → c < room → named c ≡ true → 0 < count_of t c
  pub some : (place : ℕ) → noted ≡ Some place → IsUncounted t room named next place

-- the counts of the clusters below `next` are taken into the marks
pub record Counted (t : Tables) (room : ℕ) (named : ℕ → Bool) (m : Marks) (next : ℕ) : Type 0 where
  pub bits : HasBits t room named (free_by m) m.noted next
  pub note : HasNote t room named m.noted next

-- a map for the clusters of this layer's file, in which the named ones begin
pub record MapsFile (t : Tables) (room : ℕ) (named : ℕ → Bool) (m : Marks) : Type 0 where
  pub size : m.size ≡ t.file.size
  pub cluster : m.cluster ≡ cluster_size t
  pub many : room_of m.free ≡ room
  pub whole : room % 256 ≡ 0
  pub inside : (c : ℕ) → named c ≡ true → c * cluster_size t < t.file.size

-- ---- which sector comes next

-- the words and the halves of a file that a sector from a place on has
pub record IsSector (file : File) (place : ℕ) (sector : List ℕ) : Type 0 where
  pub words : (j : ℕ) → j < 64 → number 8 (8 * j) sector ≡ file.word (place / 8 + j)
  pub halves : (j : ℕ) → j < 256 → number 2 (j * 2) sector ≡ file.half (place / 2 + j)

-- a sector has the entries of the refcount table of the row of entry k
abbrev pub HasBlockRow : Tables → ℕ → List ℕ → Type 0
HasBlockRow t k row = (i : ℕ) → i / 64 ≡ k / 64 → i < table_entries t → number 8 (8 * (i % 64)) row ≡ block_word t i

-- the row of the refcount table that begins with entry k is next
pub record AtRow (t : Tables) (room : ℕ) (named : ℕ → Bool) (m : Marks) (k : ℕ) : Type 0 where
  pub counted : Counted t room named m (k * block_span t)
  pub whole : k % 64 ≡ 0
  pub inside : k < table_entries t
  pub below : k * block_span t < room

-- a sector of a block is next
pub record AtBlock (t : Tables) (room : ℕ) (named : ℕ → Bool) (m : Marks) (spot : Spot) : Type 0 where
  pub counted : Counted t room named m (spot.entry * block_span t + 256 * spot.part)
  pub inside : spot.entry < table_entries t
  pub part : 256 * spot.part < block_span t
  pub below : spot.entry * block_span t + 256 * spot.part < room
  pub block : block_place t spot.entry ≡ spot.place
  pub some : 0 < spot.place
  pub row : HasBlockRow t spot.entry spot.row

-- what is known before a sector is read, and once all counts are taken
abbrev pub IsCounting : Tables → ℕ → (ℕ → Bool) → Marks → Option Count → Type 0
IsCounting t room named m None = Counted t room named m room
IsCounting t room named m (Some (Row k)) = AtRow t room named m k
IsCounting t room named m (Some (Block spot)) = AtBlock t room named m spot

-- where the sector that is wanted begins in the file
abbrev pub wanted_place : Header → Count → ℕ
wanted_place h (Row k) = h.refcount_table_offset + 8 * k
wanted_place h (Block spot) = spot.place + 512 * spot.part

-- ---- how many sectors are left

-- how many rows the refcount table has
abbrev pub table_rows : Header → ℕ
table_rows h = (h.refcount_table_clusters * (2 ^ h.cluster_bits / 8) + 63) / 64

-- how many sectors a block has
abbrev pub block_parts : Header → ℕ
block_parts h = 2 ^ h.cluster_bits / 512

-- at the most, where the entries from k on name so many blocks
abbrev pub sectors_left : Header → (ℕ → ℕ) → Count → ℕ
sectors_left h blocks (Row k) = (table_rows h - k / 64) + block_parts h * blocks k
sectors_left h blocks (Block spot) = (table_rows h - (spot.entry / 64 + 1)) + block_parts h * blocks (spot.entry + 1) + max 1 (block_parts h - spot.part)

abbrev pub FewerBehind : (ℕ → ℕ) → Type 0
FewerBehind blocks = (a b : ℕ) → a ≤ b → blocks b ≤ blocks a

-- an entry of the table whose block is wanted names one
abbrev pub CountsBlock : Header → (ℕ → ℕ) → Count → Type 0
CountsBlock h blocks (Row k) = Unit {0}
CountsBlock h blocks (Block spot) = spot.entry < h.refcount_table_clusters * (2 ^ h.cluster_bits / 8) → blocks (spot.entry + 1) < blocks spot.entry

-- whatever the disk tells, fewer sectors are left
abbrev pub FewerSectors : Header → Count → Option Count → Type 0
FewerSectors h count None = Unit {0}
FewerSectors h count (Some next) =
    (blocks : ℕ → ℕ) → FewerBehind blocks → CountsBlock h blocks next → sectors_left h blocks next < sectors_left h blocks count

-- ---- what a sector changes

-- what is taken in where the clusters of entry k of the refcount table have no block
pub record PassesRange (header : Header) (k : ℕ) (before after : Marks) : Type 0 where
  pub keeps : KeepsFile before after
  pub counts : (file : File) (room : ℕ) (named : ℕ → Bool) → MapsFile (counts_in header file) room named before → block_place (counts_in header file) k ≡ 0
      → Counted (counts_in header file) room named before (k * block_span (counts_in header file)) → Counted (counts_in header file) room named after ((k + 1) * block_span (counts_in header file))

-- a sector has the counts of the 256 clusters from `first` on, which are used where their counts aren't 0
pub record HasCounts (t : Tables) (first : ℕ) (sector : List ℕ) : Type 0 where
  pub count : (j : ℕ) → j < 256 → number 2 (j * 2) sector ≡ count_of t (first + j)
  pub used : (j : ℕ) → j < 256 → is_used t (first + j) ≡ nat_lt 0 (count_of t (first + j))

-- a named one of these clusters with the count 0 is noted
pub record PassesNotes (first : ℕ) (sector : List ℕ) (before after : Marks) : Type 0 where
  pub keeps : KeepsFile before after
  pub bits : (t : Tables) (room : ℕ) (named : ℕ → Bool) → MapsFile t room named before → first + 256 ≤ room → HasCounts t first sector
      → Counted t room named before first → HasBits t room named (free_by after) after.noted first
  pub note : (t : Tables) (room : ℕ) (named : ℕ → Bool) → MapsFile t room named before → first + 256 ≤ room → HasCounts t first sector
      → Counted t room named before first → HasNote t room named after.noted (first + 256)

-- the counts of the first so many of them are taken in
pub record TakesCounts (first many : ℕ) (sector : List ℕ) (before after : Marks) : Type 0 where
  pub keeps : KeepsFile before after
  pub noted : after.noted ≡ before.noted
  pub inside : (j : ℕ) → j < many → first + j < room_of before.free
      → free_by after (first + j) ≡ (if nat_lt 0 (number 2 (j * 2) sector) then is_some before.noted else free_by before (first + j))
  pub outside : (n : ℕ) → (n < first) ⊎ (first + many ≤ n) → free_by after n ≡ free_by before n

-- both
pub record PassesCounts (first : ℕ) (sector : List ℕ) (before after : Marks) : Type 0 where
  pub keeps : KeepsFile before after
  pub counts : (t : Tables) (room : ℕ) (named : ℕ → Bool) → MapsFile t room named before → first + 256 ≤ room → HasCounts t first sector
      → Counted t room named before first → Counted t room named after (first + 256)

-- the next row of the table, or none, where all entries below k are passed
pub record Turns (header : Header) (k : ℕ) (before after : Marks) (result : Option Count) : Type 0 where
  pub keeps : KeepsFile before after
  pub counts : (file : File) (room : ℕ) (named : ℕ → Bool) → MapsFile (counts_in header file) room named before
      → (k < table_entries (counts_in header file) → k * block_span (counts_in header file) < room → k % 64 ≡ 0)
      → Counted (counts_in header file) room named before (k * block_span (counts_in header file)) → IsCounting (counts_in header file) room named after result
  pub next : (count : Count) → result ≡ Some count → (count ≡ Row k) × (k < header.refcount_table_clusters * (2 ^ header.cluster_bits / 8)) × (k < div_ceil (room_of before.free) (2 ^ header.cluster_bits / 2))

-- so does what is left of the entries from `first` on, once those below k are passed
pub record PassesRest (header : Header) (first k : ℕ) (before after : Marks) : Type 0 where
  pub keeps : KeepsFile before after
  pub counts : (file : File) (room : ℕ) (named : ℕ → Bool) → MapsFile (counts_in header file) room named before → table_entries (counts_in header file) ≤ first
      → Counted (counts_in header file) room named before (first * block_span (counts_in header file)) → Counted (counts_in header file) room named after (k * block_span (counts_in header file))

-- where the row of an entry ends, or the table, or the map
pub record EndsRow (header : Header) (m : Marks) (k end : ℕ) : Type 0 where
  pub upto : end ≤ k / 64 * 64 + 64
  pub table : end ≤ header.refcount_table_clusters * (2 ^ header.cluster_bits / 8)
  pub map : end ≤ div_ceil (room_of m.free) (2 ^ header.cluster_bits / 2)
  pub full : end < header.refcount_table_clusters * (2 ^ header.cluster_bits / 8) → end < div_ceil (room_of m.free) (2 ^ header.cluster_bits / 2) → end ≡ k / 64 * 64 + 64
  pub ahead : k ≤ header.refcount_table_clusters * (2 ^ header.cluster_bits / 8) → k ≤ div_ceil (room_of m.free) (2 ^ header.cluster_bits / 2) → k ≤ end

-- the entries from `first` up to k of a row name no block
pub record PassesRow (header : Header) (first k : ℕ) (row : List ℕ) (before after : Marks) : Type 0 where
  pub keeps : KeepsFile before after
  pub counts : (file : File) (room : ℕ) (named : ℕ → Bool) → MapsFile (counts_in header file) room named before → HasBlockRow (counts_in header file) first row
      → Counted (counts_in header file) room named before (first * block_span (counts_in header file)) → Counted (counts_in header file) room named after (k * block_span (counts_in header file))

-- a count of a row's entries from k on, or of the next row
abbrev pub IsBehind : Header → ℕ → Count → Type 0
IsBehind h k (Row i) = (i / 64 ≡ k / 64 + 1) × (i < h.refcount_table_clusters * (2 ^ h.cluster_bits / 8))
IsBehind h k (Block spot) =
    (k ≤ spot.entry) × (spot.entry / 64 ≡ k / 64) × (spot.part ≡ 0) × (spot.entry < h.refcount_table_clusters * (2 ^ h.cluster_bits / 8))

-- the entries from k on of a row of the table
pub record Scans (header : Header) (k : ℕ) (row : List ℕ) (before after : Marks) (result : Option Count) : Type 0 where
  pub keeps : KeepsFile before after
  pub counts : (file : File) (room : ℕ) (named : ℕ → Bool) → MapsFile (counts_in header file) room named before
      → k ≤ table_entries (counts_in header file) → k * block_span (counts_in header file) < room + block_span (counts_in header file) → HasBlockRow (counts_in header file) k row
      → Counted (counts_in header file) room named before (k * block_span (counts_in header file)) → IsCounting (counts_in header file) room named after result
  pub next : (count : Count) → result ≡ Some count → IsBehind header k count

-- a sector is taken in
pub record Takes (header : Header) (count : Count) (sector : List ℕ) (before after : Marks) (result : Option Count) : Type 0 where
  pub keeps : KeepsFile before after
  pub counts : (file : File) (room : ℕ) (named : ℕ → Bool) → MapsFile (counts_in header file) room named before → IsCounting (counts_in header file) room named before (Some count)
      → IsSector file (wanted_place header count) sector → IsCounting (counts_in header file) room named after result
  pub falls : FewerSectors header count result

-- ---- single changes of the map

-- A named cluster with the count 0 is noted: the clusters below `first` are free, and the others as they were.
pub record Notes (first c : ℕ) (before after : Marks) : Type 0 where
  pub keeps : KeepsFile before after
  pub noted : c * before.cluster < 2 ^ 64 → after.noted ≡ Some (c * before.cluster)
  pub filled : (n : ℕ) → n < first → n < room_of before.free → free_by after n ≡ true
  pub others : (n : ℕ) → first ≤ n → free_by after n ≡ free_by before n

-- the cluster is used
pub record Uses (c : ℕ) (before after : Marks) : Type 0 where
  pub keeps : KeepsFile before after
  pub noted : after.noted ≡ before.noted
  pub here : free_by after c ≡ false
  pub others : (n : ℕ) → n ≢ c → free_by after n ≡ free_by before n

-- the count of one cluster, where none is named with the count 0 that isn't noted
pub record TakesCount (c count : ℕ) (before after : Marks) : Type 0 where
  pub keeps : KeepsFile before after
  pub noted : after.noted ≡ before.noted
  pub here : c < room_of before.free → free_by after c ≡ (if nat_lt 0 count then is_some before.noted else free_by before c)
  pub others : (n : ℕ) → n ≢ c → free_by after n ≡ free_by before n

-- of the first so many clusters from `first` on, this one isn't free and has the count 0 in a sector, or none is so
abbrev pub IsFound : ℕ → ℕ → List ℕ → Marks → Option ℕ → Type 0
IsFound first many sector m None = (j : ℕ) → j < many → number 2 (j * 2) sector ≡ 0 → free_by m (first + j) ≡ true
IsFound first many sector m (Some c) =
    (j : ℕ) × (j < many) × (c ≡ first + j) × (number 2 (j * 2) sector ≡ 0) × (free_by m c ≡ false)
