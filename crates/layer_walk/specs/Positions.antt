-- Which position each entry has, and what is known once the positions below one were looked at.
use Rattle.std.specs.Prelude.{◌≡◌, ℕ, suc, ◌+◌, ◌-◌, ◌*◌, ◌/◌, ◌%◌, ◌^◌, min, ◌<◌, ◌≤◌, List, Option, Some, None, Result, Ok, Err}
use Rattle.sd_names.specs.declared.fault.LayerFault.{LayerFault}
use Rattle.qcow_format.specs.declared.header.Header.{Header}
use Rattle.qcow_format.specs.Bytes.{number}
use Rattle.image_model.specs.File.{File}
use Rattle.image_model.specs.Layer.{Tables, cluster_size, count_of, entries, l1_clusters, block_at, block_word, l1_at, l1_entry, l2_at}
use Rattle.image_model.specs.Soundness.{FaultAt, FirstFault, Item, before_mapping, item, named_by, names, own_fault}
use Rattle.layer_walk.specs.Checked.{Checked, Finding}
use Rattle.layer_walk.specs.Items.{NamesCluster, layer_of}
use Rattle.layer_walk.specs.Marks.{MarksFile, KeepsWalk, free_by, used_by}
use Rattle.layer_walk.specs.declared.head.Stop.{Stop}
use Rattle.layer_walk.specs.declared.marks.Marks.{Marks}
use Rattle.layer_walk.specs.declared.walk.Block.{Block}
use Rattle.layer_walk.specs.declared.walk.Table.{Table}

-- how many clusters the header names
abbrev pub head_end : Tables → ℕ
head_end t = 1 + l1_clusters t + t.header.refcount_table_clusters

-- entry k of the refcount table
abbrev pub block_position : Tables → ℕ → ℕ
block_position t k = head_end t + k

-- L1 entry i
abbrev pub l1_position : Tables → ℕ → ℕ
l1_position t i = before_mapping t + i * (1 + entries t)

-- entry j of the L2 table behind L1 entry i
abbrev pub l2_position : Tables → ℕ → ℕ → ℕ
l2_position t i j = l1_position t i + 1 + j

-- ---- what is known of the positions below one

-- the positions below n were looked at, in the first walk or in the second
abbrev pub HoldsBy : Option ℕ → Tables → ℕ → ℕ → Marks → Type 0
HoldsBy None t capacity n m = Checked t capacity n (used_by m)
HoldsBy (Some noted) t capacity n m = Finding t capacity n (free_by m)

abbrev pub Holds : Tables → ℕ → ℕ → Marks → Type 0
Holds t capacity n m = HoldsBy m.noted t capacity n m

-- the positions below `at` were looked at, and this one has a fault, by itself or as the second name of a cluster
pub record IsStopped (t : Tables) (capacity at : ℕ) (m : Marks) (fault : LayerFault) : Type 0 where
  pub checked : Checked t capacity at (used_by m)
  pub here : FaultAt t capacity at fault

-- a walk stops at a position; the second one with the layer's first fault
abbrev pub StopsBy : Option ℕ → Tables → ℕ → ℕ → Marks → LayerFault → Type 0
StopsBy None t capacity at m fault = IsStopped t capacity at m fault
StopsBy (Some noted) t capacity at m fault = FirstFault t capacity fault

-- it stops at a position from n on
pub record Stops (t : Tables) (capacity n : ℕ) (m : Marks) (fault : LayerFault) : Type 0 where
  pub at : ℕ
  pub low : n ≤ at
  pub stops : StopsBy m.noted t capacity at m fault

-- what was made of position n
abbrev pub ReachedAt : Tables → ℕ → ℕ → Marks → Option LayerFault → Type 0
ReachedAt t capacity n m None = Holds t capacity (suc n) m
ReachedAt t capacity n m (Some fault) = StopsBy m.noted t capacity n m fault

-- of the positions from `start` on up to n
abbrev pub Reached : Tables → ℕ → ℕ → ℕ → Marks → Option LayerFault → Type 0
Reached t capacity start n m None = Holds t capacity n m
Reached t capacity start n m (Some fault) = Stops t capacity start m fault

-- an item as the code has it: the same, or with the same fault
pub record IsItem (size : ℕ) (x y : Item) : Type 0 where
  pub own : own_fault size x ≡ own_fault size y
  pub same : own_fault size y ≡ None → x ≡ y

-- ---- the clusters that the header names

-- how many the L1 table has, and how many there are in all
abbrev pub l1_count : Header → ℕ
l1_count h = (8 * h.l1_size + (2 ^ h.cluster_bits - 1)) / 2 ^ h.cluster_bits

abbrev pub head_count : Header → ℕ
head_count h = 1 + l1_count h + h.refcount_table_clusters

-- cluster n of them as the code has it
pub record IsHead (header : Header) (n : ℕ) (x : Item) : Type 0 where
  pub is : (file : File) (capacity : ℕ) → file.size < 2 ^ 64 → IsItem file.size x (item (layer_of header file) capacity n)
  pub aligned : header.l1_table_offset % 2 ^ header.cluster_bits ≡ 0 → header.refcount_table_offset % 2 ^ header.cluster_bits ≡ 0 → NamesCluster (2 ^ header.cluster_bits) x

-- and one of those that a field names
pub record IsNamed (at place cluster : ℕ) (x : Item) : Type 0 where
  pub is : (size : ℕ) → size < 2 ^ 64 → IsItem size x (named_by at place)
  pub aligned : place % cluster ≡ 0 → NamesCluster cluster x

abbrev pub ReachedHead : Tables → ℕ → ℕ → Marks → Option Stop → Type 0
ReachedHead t capacity n m None = Holds t capacity n m
ReachedHead t capacity n m (Some stop) = (stop.at < n) × StopsBy m.noted t capacity stop.at m stop.fault

-- the first n of them were looked at
pub record PassesHead (header : Header) (n : ℕ) (before after : Marks) (result : Option Stop) : Type 0 where
  pub keeps : KeepsWalk before after
  pub inside : (stop : Stop) → result ≡ Some stop → stop.at < n
  pub reaches : (file : File) (capacity : ℕ) → n ≤ head_end (layer_of header file) → header.l1_table_offset % 2 ^ header.cluster_bits ≡ 0
      → header.refcount_table_offset % 2 ^ header.cluster_bits ≡ 0 → file.size < 2 ^ 64 → MarksFile before (layer_of header file)
      → Holds (layer_of header file) capacity 0 before → ReachedHead (layer_of header file) capacity n after result

-- ---- the refcount table

-- the blocks below position n have a count
abbrev pub Counted : Tables → ℕ → ℕ → Type 0
Counted t capacity n = (m place : ℕ) → head_end t ≤ m → m < n → names t capacity m ≡ Some place → 0 < count_of t (place / cluster_size t)

-- a sector has the refcount table's entries of the row of entry k
abbrev pub HasBlocks : Tables → ℕ → List ℕ → Type 0
HasBlocks t k row = (j : ℕ) → j / 64 ≡ k / 64 → number 8 (8 * (j % 64)) row ≡ block_word t j

-- entry k of the refcount table was looked at
abbrev pub ReachedBlock : Tables → ℕ → ℕ → Marks → Result (Option ℕ) LayerFault → Type 0
ReachedBlock t capacity k m (Ok name) = (names t capacity (block_position t k) ≡ name) × Holds t capacity (block_position t (k + 1)) m
ReachedBlock t capacity k m (Err fault) = StopsBy m.noted t capacity (block_position t k) m fault

pub record PassesBlock (header : Header) (k bits : ℕ) (before after : Marks) (result : Result (Option ℕ) LayerFault) : Type 0 where
  pub keeps : KeepsWalk before after
  pub reaches : (file : File) (capacity : ℕ) → k < header.refcount_table_clusters * entries (layer_of header file) → block_at (layer_of header file) k < 2 ^ 64
      → block_word (layer_of header file) k ≡ bits → MarksFile before (layer_of header file)
      → Holds (layer_of header file) capacity (block_position (layer_of header file) k) before
      → ReachedBlock (layer_of header file) capacity k after result

-- the entries below k were looked at: those behind the ones that were known name no block, or one does
abbrev pub ReachedBlocks : Tables → ℕ → ℕ → Marks → Result (Option Block) LayerFault → Type 0
ReachedBlocks t capacity k m (Ok None) = Holds t capacity (block_position t k) m × Counted t capacity (block_position t k)
ReachedBlocks t capacity k m (Ok (Some block)) =
    Holds t capacity (block_position t (block.index + 1)) m × Counted t capacity (block_position t block.index)
    × (names t capacity (block_position t block.index) ≡ Some block.place)
ReachedBlocks t capacity k m (Err fault) = (at : ℕ) × (head_end t ≤ at) × StopsBy m.noted t capacity at m fault × Counted t capacity at

pub record PassesBlocks (header : Header) (k end : ℕ) (row : List ℕ) (before after : Marks) (result : Result (Option Block) LayerFault) : Type 0 where
  pub keeps : KeepsWalk before after
  pub inside : (block : Block) → result ≡ Ok (Some block) → (k ≤ block.index) × (block.index < k / 64 * 64 + 64)
  pub reaches : (file : File) (capacity : ℕ) → k / 64 * 64 + 64 ≤ header.refcount_table_clusters * entries (layer_of header file)
      → block_at (layer_of header file) (k / 64 * 64 + 64) ≤ 2 ^ 64 → HasBlocks (layer_of header file) k row → MarksFile before (layer_of header file)
      → Holds (layer_of header file) capacity (block_position (layer_of header file) k) before → Counted (layer_of header file) capacity (block_position (layer_of header file) k)
      → ReachedBlocks (layer_of header file) capacity end after result

-- ---- L2 tables

-- a sector has the entries of an L2 table from j on
abbrev pub HasEntries : Tables → ℕ → ℕ → List ℕ → Type 0
HasEntries t table j sector = (m : ℕ) → m < 64 → number 8 (8 * m) sector ≡ t.file.word (l2_at table (j + m) / 8)

-- one entry of an L2 table was looked at
pub record PassesEntry (header : Header) (capacity i table j bits : ℕ) (before after : Marks) (result : Option LayerFault) : Type 0 where
  pub keeps : KeepsWalk before after
  pub reaches : (file : File) → i < header.l1_size → j < entries (layer_of header file) → l2_at table j < 2 ^ 64 → l1_entry (layer_of header file) i ≡ Ok (Some table)
      → file.word (l2_at table j / 8) ≡ bits → MarksFile before (layer_of header file)
      → Holds (layer_of header file) capacity (l2_position (layer_of header file) i j) before
      → ReachedAt (layer_of header file) capacity (l2_position (layer_of header file) i j) after result

-- so many entries of an L2 table, of the 64 in a sector, were looked at
pub record PassesEntries (header : Header) (capacity i table j count : ℕ) (sector : List ℕ) (before after : Marks) (result : Option LayerFault) : Type 0 where
  pub keeps : KeepsWalk before after
  pub reaches : (file : File) → i < header.l1_size → j + 64 ≤ entries (layer_of header file) → l2_at table j + 512 ≤ 2 ^ 64 → l1_entry (layer_of header file) i ≡ Ok (Some table)
      → HasEntries (layer_of header file) table j sector → MarksFile before (layer_of header file)
      → Holds (layer_of header file) capacity (l2_position (layer_of header file) i j) before
      → Reached (layer_of header file) capacity (l2_position (layer_of header file) i j) (l2_position (layer_of header file) i (j + count)) after result

-- ---- the L1 table

-- L1 entry i was looked at: it names a table, whose entries come next, or none
abbrev pub ReachedL1 : Tables → ℕ → ℕ → Marks → Result (Option ℕ) LayerFault → Type 0
ReachedL1 t capacity i m (Ok (Some table)) = (l1_entry t i ≡ Ok (Some table)) × Holds t capacity (l2_position t i 0) m
ReachedL1 t capacity i m (Ok None) = Holds t capacity (l1_position t (i + 1)) m
ReachedL1 t capacity i m (Err fault) = StopsBy m.noted t capacity (l1_position t i) m fault

pub record PassesL1 (header : Header) (i bits : ℕ) (before after : Marks) (result : Result (Option ℕ) LayerFault) : Type 0 where
  pub keeps : KeepsWalk before after
  pub reaches : (file : File) (capacity : ℕ) → i < header.l1_size → l1_at (layer_of header file) i < 2 ^ 64 → file.word (l1_at (layer_of header file) i / 8) ≡ bits → MarksFile before (layer_of header file)
      → Holds (layer_of header file) capacity (l1_position (layer_of header file) i) before
      → ReachedL1 (layer_of header file) capacity i after result

-- the L1 entry behind the last one in the sector of entry i
abbrev pub row_end : Header → ℕ → ℕ
row_end header i = min header.l1_size (i / 64 * 64 + 64)

-- a sector has the L1 entries of the row of entry i
abbrev pub HasRow : Tables → ℕ → List ℕ → Type 0
HasRow t i row = (k : ℕ) → k / 64 ≡ i / 64 → number 8 (8 * (k % 64)) row ≡ t.file.word (l1_at t k / 8)

-- the L1 entries below k were looked at and name no table behind those that were known, or one names a table
abbrev pub ReachedRow : Tables → ℕ → ℕ → ℕ → Marks → Result (Option Table) LayerFault → Type 0
ReachedRow t capacity i k m (Ok (Some table)) =
    (l1_entry t table.index ≡ Ok (Some table.place)) × Holds t capacity (l2_position t table.index 0) m
ReachedRow t capacity i k m (Ok None) = Holds t capacity (l1_position t k) m
ReachedRow t capacity i k m (Err fault) = Stops t capacity (l1_position t i) m fault

-- the L1 entries from i up to k, which stand in one sector, were looked at
pub record PassesRow (header : Header) (i k : ℕ) (row : List ℕ) (before after : Marks) (result : Result (Option Table) LayerFault) : Type 0 where
  pub keeps : KeepsWalk before after
  pub inside : (table : Table) → result ≡ Ok (Some table) → (i ≤ table.index) × (table.index < row_end header i)
  pub reaches : (file : File) (capacity : ℕ) → i < header.l1_size → l1_at (layer_of header file) header.l1_size ≤ 2 ^ 64 → HasRow (layer_of header file) i row → MarksFile before (layer_of header file)
      → Holds (layer_of header file) capacity (l1_position (layer_of header file) i) before
      → ReachedRow (layer_of header file) capacity i k after result
