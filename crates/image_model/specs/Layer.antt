-- What the tables of a qcow2 file say (qcow2 specification, "Host cluster management", "Cluster mapping").
use Rattle.std.specs.Prelude.{ℕ, ◌+◌, ◌-◌, ◌*◌, ◌/◌, ◌%◌, ◌^◌, Bool, true, false, nat_lt, ◌==◌, ◌&&◌, ◌||◌, if◌then◌else◌, Option, Some, None, Result, Ok, Err}
use Rattle.sd_names.specs.declared.fault.LayerFault.{LayerFault}
use Rattle.qcow_format.specs.declared.header.Header.{Header}
use Rattle.qcow_format.specs.declared.entry.Entry.{Entry}
use Rattle.qcow_format.specs.declared.entry.Entry.TheVariants.{Absent, Zero, Data}
use Rattle.qcow_format.specs.Entry.{entry_in, table_in}
use Rattle.image_model.specs.File.{File}

-- a layer: its header, and the file that it stands in
pub record Tables : Type 0 where
  pub header : Header
  pub file : File

-- the size of a cluster, and how many entries of 8 bytes a table of one cluster has
abbrev pub cluster_size : Tables → ℕ
cluster_size t = 2 ^ t.header.cluster_bits

abbrev pub entries : Tables → ℕ
entries t = cluster_size t / 8

-- the clusters of the L1 table
abbrev pub l1_clusters : Tables → ℕ
l1_clusters t = (8 * t.header.l1_size + (cluster_size t - 1)) / cluster_size t

-- ---- refcounts: a table of blocks, a block being one cluster of counts of 2 bytes

abbrev pub block_at : Tables → ℕ → ℕ
block_at t k = t.header.refcount_table_offset + 8 * k

abbrev pub block_word : Tables → ℕ → ℕ
block_word t k = if nat_lt k (t.header.refcount_table_clusters * entries t) then t.file.word (block_at t k / 8) else 0

-- where block k stands, or 0 for none: bits 9 to 63
abbrev pub block_place : Tables → ℕ → ℕ
block_place t k = block_word t k / 512 * 512

-- how many clusters a block counts
abbrev pub block_span : Tables → ℕ
block_span t = cluster_size t / 2

-- the count of a cluster by its number
abbrev pub count_of : Tables → ℕ → ℕ
count_of t c = let block = block_place t (c / block_span t) in if block == 0 then 0 else t.file.half (block / 2 + c % block_span t)

-- ---- the two levels

abbrev pub l1_at : Tables → ℕ → ℕ
l1_at t i = t.header.l1_table_offset + 8 * i

-- the L2 table that L1 entry i names
abbrev pub l1_entry : Tables → ℕ → Result (Option ℕ) LayerFault
l1_entry t i = table_in (t.file.word (l1_at t i / 8)) (l1_at t i)

abbrev pub l2_at : ℕ → ℕ → ℕ
l2_at table j = table + 8 * j

-- entry j of the L2 table at a place
abbrev pub l2_entry : Tables → ℕ → ℕ → Result Entry LayerFault
l2_entry t table j = entry_in (t.file.word (l2_at table j / 8)) t.header.version (l2_at table j)

-- what an entry says where it has no fault
abbrev pub entry_or_absent : Result Entry LayerFault → Entry
entry_or_absent (Ok entry) = entry
entry_or_absent (Err fault) = Absent

abbrev pub entry_behind : Tables → ℕ → Result (Option ℕ) LayerFault → Entry
entry_behind t j (Ok (Some table)) = entry_or_absent (l2_entry t table j)
entry_behind t j (Ok None) = Absent
entry_behind t j (Err fault) = Absent

-- what a layer says of cluster k of the virtual disk
unfoldable pub entry_at : Tables → ℕ → Entry
entry_at t k = if nat_lt (k / entries t) t.header.l1_size then entry_behind t (k % entries t) (l1_entry t (k / entries t)) else Absent

abbrev pub names_table : Result (Option ℕ) LayerFault → Bool
names_table (Ok (Some table)) = true
names_table (Ok None) = false
names_table (Err fault) = false

-- whether the L2 table of cluster k is there
abbrev pub has_table : Tables → ℕ → Bool
has_table t k = nat_lt (k / entries t) t.header.l1_size && names_table (l1_entry t (k / entries t))

-- the byte of a cluster, or None where the layer doesn't hold the cluster
abbrev pub byte_behind : Tables → ℕ → Entry → Option ℕ
byte_behind t offset Absent = None
byte_behind t offset (Zero place) = Some 0
byte_behind t offset (Data place) = Some (t.file.byte (place + offset))

-- byte i of the virtual disk, where the layer itself holds it
unfoldable pub own_byte : Tables → ℕ → Option ℕ
own_byte t i = byte_behind t (i % cluster_size t) (entry_at t (i / cluster_size t))

-- ---- used clusters

-- A cluster that a write doesn't take: one with a count above 0, and the first of a range without a block, which becomes it.
unfoldable pub is_used : Tables → ℕ → Bool
is_used t c = nat_lt 0 (count_of t c) || (c % block_span t == 0 && block_place t (c / block_span t) == 0)

-- how many bytes the refcount table covers
abbrev pub covered : Tables → ℕ
covered t = t.header.refcount_table_clusters * entries t * block_span t * cluster_size t
