-- The first thing that is wrong with a layer. What a file names is numbered by positions: the header's cluster, those
-- of the L1 table and of the refcount table, the refcount blocks, and each L1 entry with the entries of its L2 table.
use Rattle.std.specs.Prelude.{◌≡◌, ℕ, ◌+◌, ◌-◌, ◌*◌, ◌/◌, ◌%◌, ◌<◌, nat_lt, nat_le, ◌==◌, not, if◌then◌else◌, Option, Some, None, Result, Ok, Err, MatchResult}
use Rattle.sd_names.specs.declared.fault.LayerFault.{LayerFault}
use Rattle.sd_names.specs.declared.fault.LayerFault.TheVariants.{Short, Size, MixedBits, OutOfFile, Shared, LowRefcount, Tail}
use Rattle.qcow_format.specs.declared.header.Header.{Header}
use Rattle.qcow_format.specs.declared.entry.Entry.{Entry}
use Rattle.qcow_format.specs.declared.entry.Entry.TheVariants.{Absent, Zero, Data}
use Rattle.qcow_format.specs.Header.{header_of}
use Rattle.image_model.specs.File.{File}
use Rattle.image_model.specs.Layer.{Tables, cluster_size, entries, l1_clusters, block_at, block_word, block_place, count_of, l1_at, l1_entry, l2_at, l2_entry}

-- What stands at a position: where in the file, what is wrong with its bits or its cluster, and the place that it names.
pub record Item : Type 0 where
  pub at : ℕ
  pub wrong : Option LayerFault
  pub name : Option ℕ

abbrev pub nothing : Item
nothing = record { at = 0; wrong = None; name = None }

-- a cluster that a header field names
abbrev pub named_by : ℕ → ℕ → Item
named_by at place = record { at = at; wrong = None; name = Some place }

-- an entry that names a place, which has to be one of a cluster
abbrev pub placed : Tables → ℕ → ℕ → Item
placed t at place = record {
  at = at;
  wrong = if place % cluster_size t == 0 then None else Some (MixedBits at);
  name = Some place;
}

abbrev pub faulty : ℕ → LayerFault → Item
faulty at fault = record { at = at; wrong = Some fault; name = None }

-- entry k of the refcount table: bits 0 to 8 are reserved
abbrev pub block_item : Tables → ℕ → Item
block_item t k =
    if not (block_word t k % 512 == 0) then faulty (block_at t k) (MixedBits (block_at t k))
    else (if block_place t k == 0 then nothing else placed t (block_at t k) (block_place t k))

abbrev pub l1_item_of : Tables → ℕ → Result (Option ℕ) LayerFault → Item
l1_item_of t at (Err fault) = faulty at fault
l1_item_of t at (Ok None) = nothing
l1_item_of t at (Ok (Some table)) = placed t at table

-- an L2 entry for a cluster of the virtual disk past the capacity may only be Absent
abbrev pub beyond : ℕ → ℕ → Item → Item
beyond capacity start item = if nat_le capacity start
    then record item { wrong = (elim item.wrong [ None ↦ Some (Tail item.at) | Some fault ↦ Some fault ]) } else item

abbrev pub l2_item_of : Tables → ℕ → ℕ → ℕ → Result Entry LayerFault → Item
l2_item_of t capacity start at (Err fault) = faulty at fault
l2_item_of t capacity start at (Ok Absent) = nothing
l2_item_of t capacity start at (Ok (Zero place)) =
    beyond capacity start (if place == 0 then record { at = at; wrong = None; name = None } else placed t at place)
l2_item_of t capacity start at (Ok (Data place)) = beyond capacity start (placed t at place)

-- entry j of the L2 table that L1 entry i names
abbrev pub l2_item : Tables → ℕ → ℕ → ℕ → Result (Option ℕ) LayerFault → Item
l2_item t capacity i j (Ok (Some table)) =
    l2_item_of t capacity ((i * entries t + j) * cluster_size t) (l2_at table j) (l2_entry t table j)
l2_item t capacity i j (Ok None) = nothing
l2_item t capacity i j (Err fault) = nothing

-- L1 entry i where j is 0, and else entry j - 1 of the L2 table behind it
abbrev pub mapping_item : Tables → ℕ → ℕ → ℕ → Item
mapping_item t capacity i j =
    if nat_le t.header.l1_size i then nothing
    else (if j == 0 then l1_item_of t (l1_at t i) (l1_entry t i) else l2_item t capacity i (j - 1) (l1_entry t i))

-- how many positions come before the L1 entries
abbrev pub before_mapping : Tables → ℕ
before_mapping t = 1 + l1_clusters t + t.header.refcount_table_clusters * (1 + entries t)

-- Position n. The header names its own cluster, 0, and with the fields at 40 and 48 those of the two tables.
unfoldable pub item : Tables → ℕ → ℕ → Item
item t capacity n =
    if n == 0 then named_by 0 0
    else if nat_lt n (1 + l1_clusters t) then named_by 40 (t.header.l1_table_offset + (n - 1) * cluster_size t)
    else if nat_lt n (1 + l1_clusters t + t.header.refcount_table_clusters)
    then named_by 48 (t.header.refcount_table_offset + (n - 1 - l1_clusters t) * cluster_size t)
    else if nat_lt n (before_mapping t) then block_item t (n - 1 - l1_clusters t - t.header.refcount_table_clusters)
    else mapping_item t capacity ((n - before_mapping t) / (1 + entries t)) ((n - before_mapping t) % (1 + entries t))

-- what a position names
abbrev pub names : Tables → ℕ → ℕ → Option ℕ
names t capacity n = (item t capacity n).name

abbrev pub NamedBefore : Tables → ℕ → ℕ → ℕ → Type 0
NamedBefore t capacity n place = (m : ℕ) × (m < n) × (names t capacity m ≡ Some place)

-- a name past the file's end
abbrev pub outside : ℕ → ℕ → Option ℕ → Option LayerFault
outside size at None = None
outside size at (Some place) = if nat_le size place then Some (OutOfFile at) else None

-- what is wrong with a position by itself
abbrev pub own_fault : ℕ → Item → Option LayerFault
own_fault size x = elim x.wrong [ None ↦ outside size x.at x.name | Some fault ↦ Some fault ]

pub record IsClean (t : Tables) (capacity n : ℕ) : Type 0 where
  pub fine : own_fault t.file.size (item t capacity n) ≡ None
  pub once : (place : ℕ) → names t capacity n ≡ Some place → NamedBefore t capacity n place → ⊥
  pub counted : (place : ℕ) → names t capacity n ≡ Some place → 0 < count_of t (place / cluster_size t)

-- what is wrong at a position, the first of these: by itself, named before, or named with the count 0
pub data FaultAt (t : Tables) (capacity n : ℕ) : LayerFault → Type 0 where
  own : {fault : LayerFault} → own_fault t.file.size (item t capacity n) ≡ Some fault → FaultAt t capacity n fault
  again : {place : ℕ} → own_fault t.file.size (item t capacity n) ≡ None → names t capacity n ≡ Some place
      → NamedBefore t capacity n place → FaultAt t capacity n (Shared place)
  uncounted : {place : ℕ} → own_fault t.file.size (item t capacity n) ≡ None → names t capacity n ≡ Some place
      → (NamedBefore t capacity n place → ⊥) → count_of t (place / cluster_size t) ≡ 0 → FaultAt t capacity n (LowRefcount place)

-- the fault at the least position that has one
pub record FirstFault (t : Tables) (capacity : ℕ) (fault : LayerFault) : Type 0 where
  pub at : ℕ
  pub here : FaultAt t capacity at fault
  pub before : (m : ℕ) → m < at → IsClean t capacity m

-- the header's size is enough for a volume of a capacity
abbrev pub layer_header_of : ℕ → Result Header LayerFault → Result Header LayerFault
layer_header_of capacity (Ok h) = if nat_lt h.size capacity then Err (Size h.size) else Ok h
layer_header_of capacity (Err fault) = Err fault

-- the header of a layer for a volume of a capacity
unfoldable pub layer_header : File → ℕ → Result Header LayerFault
layer_header file capacity = if nat_lt file.size 512 then Err Short else layer_header_of capacity (header_of file.head)

-- a layer's first fault
abbrev pub HasFault : File → ℕ → LayerFault → Type 0
HasFault file capacity fault =
    MatchResult (layer_header file capacity) (λ h. FirstFault (record { header = h; file = file }) capacity fault) (λ e. e ≡ fault)

-- a layer without a fault
abbrev pub IsSound : File → ℕ → Type 0
IsSound file capacity =
    MatchResult (layer_header file capacity) (λ h. (n : ℕ) → IsClean (record { header = h; file = file }) capacity n) (λ e. ⊥)
