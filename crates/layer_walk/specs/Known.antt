-- What a walk knows between its sectors, and what one leaves.
use Rattle.std.specs.Prelude.{◌≡◌, ◌⊎◌, ℕ, ◌+◌, ◌*◌, ◌/◌, ◌%◌, ◌<◌, ◌≤◌, Bool, not, List, Option, Some, None, Ok}
use Rattle.sd_names.specs.declared.fault.LayerFault.{LayerFault}
use Rattle.image_model.specs.File.{File, file_of, sector_in}
use Rattle.image_model.specs.Layer.{Tables, block_place, block_span, cluster_size, count_of, entries, is_used, l1_entry}
use Rattle.image_model.specs.Soundness.{FaultAt, FirstFault, IsClean, before_mapping, item, names, nothing}
use Rattle.layer_walk.specs.Bits.{room_of}
use Rattle.layer_walk.specs.Checked.{Checked, IsOnce}
use Rattle.layer_walk.specs.Counting.{IsCounting, MapsFile}
use Rattle.layer_walk.specs.Items.{layer_of}
use Rattle.layer_walk.specs.Marks.{KeepsFile, MarksFile, free_by, used_by}
use Rattle.layer_walk.specs.Positions.{Counted, HasBlocks, HasRow, Holds, Stops, block_position, head_end, l1_position, l2_position}
use Rattle.layer_walk.specs.declared.count.Count.{Count}
use Rattle.layer_walk.specs.declared.marks.Marks.{Marks}
use Rattle.layer_walk.specs.declared.walk.Passed.{Passed}
use Rattle.layer_walk.specs.declared.walk.Passed.TheVariants as passed
use Rattle.layer_walk.specs.declared.walk.Then.{Then}
use Rattle.layer_walk.specs.declared.walk.Then.TheVariants as then
use Rattle.layer_walk.specs.declared.walk.Walk.{Walk}
use Rattle.layer_walk.specs.declared.walk.Walk.TheVariants as walk
use Rattle.layer_walk.specs.declared.work.Work.{Work}

-- the layer that is looked at
abbrev pub tables_of : Work → File → Tables
tables_of work file = layer_of work.header file

abbrev pub work_of : Walk → Work
work_of (walk.Blocks work k) = work
work_of (walk.Ask work ask) = work
work_of (walk.L1 work i) = work
work_of (walk.L2 work i table j row) = work
work_of (walk.Counts work fault count) = work

-- the layer is the same, and its map has the same clusters
pub record KeepsWork (before after : Work) : Type 0 where
  pub header : after.header ≡ before.header
  pub parent : after.parent ≡ before.parent
  pub marks : KeepsFile before.marks after.marks

-- a fact for each way in which a sector leaves a walk
abbrev pub MatchPassed : Passed → (Walk → Type 0) → (Work → Type 0) → (LayerFault → Type 0) → Type 0
MatchPassed (passed.More next) P Q R = P next
MatchPassed (passed.Sound work) P Q R = Q work
MatchPassed (passed.Fault fault) P Q R = R fault

-- a sound layer's map tells which clusters are used, and none is noted
pub record EndsWork (before after : Work) : Type 0 where
  pub keeps : KeepsWork before after
  pub plain : after.marks.noted ≡ None

abbrev pub Keeps : Work → Passed → Type 0
Keeps work passed = MatchPassed passed (λ next. KeepsWork work (work_of next)) (λ after. EndsWork work after) (λ _. Unit {0})

-- ---- what is asked of the counts of clusters

-- A position has a fault. Those before it have none but that a name may have the count 0, and of these only what the header
-- names from n on, below an end.
pub record HeadKnown (t : Tables) (capacity n end : ℕ) (fault : LayerFault) : Type 0 where
  pub at : ℕ
  pub once : (m : ℕ) → m < at → IsOnce t capacity m
  pub here : FaultAt t capacity at fault
  pub low : end ≤ at
  pub head : end ≤ head_end t
  pub counted : (m place : ℕ) → m < at → (m < n) ⊎ (end ≤ m) → names t capacity m ≡ Some place → 0 < count_of t (place / cluster_size t)

-- The positions up to entry k of the refcount table were looked at; it names this place, and the blocks before it have counts.
pub record EntryKnown (t : Tables) (capacity : ℕ) (m : Marks) (place k : ℕ) (row : List ℕ) : Type 0 where
  pub naming : m.noted ≡ None
  pub checked : Checked t capacity (block_position t (k + 1)) (used_by m)
  pub counted : Counted t capacity (block_position t k)
  pub name : names t capacity (block_position t k) ≡ Some place
  pub inside : k < t.header.refcount_table_clusters * entries t
  pub kept : HasBlocks t k row

abbrev pub ThenKnows : Tables → ℕ → Marks → ℕ → Then → Type 0
ThenKnows t capacity m place (then.Entries k row) = EntryKnown t capacity m place k row
ThenKnows t capacity m place (then.Head n end fault) = HeadKnown t capacity n end fault × (n < end) × (names t capacity n ≡ Some place)

abbrev pub BlockKnown : Tables → ℕ → Option ℕ → Type 0
BlockKnown t place None = Unit {0}
BlockKnown t place (Some block) = (block_place t (place / cluster_size t / block_span t) ≡ block) × (0 < block)

-- ---- what is known of the tables

-- the refcount table's entries below k were looked at, and their blocks have counts
pub record BlocksKnown (t : Tables) (capacity : ℕ) (m : Marks) (k : ℕ) : Type 0 where
  pub naming : m.noted ≡ None
  pub checked : Checked t capacity (block_position t k) (used_by m)
  pub counted : Counted t capacity (block_position t k)

-- so were they, and the first of a sector comes next
pub record RowKnown (t : Tables) (capacity : ℕ) (m : Marks) (k : ℕ) : Type 0 where
  pub blocks : BlocksKnown t capacity m k
  pub whole : k % 64 ≡ 0
  pub within : k ≤ t.header.refcount_table_clusters * entries t

-- one of a sector that is there
pub record SectorKnown (t : Tables) (capacity : ℕ) (m : Marks) (k : ℕ) (row : List ℕ) : Type 0 where
  pub blocks : BlocksKnown t capacity m k
  pub inside : k < t.header.refcount_table_clusters * entries t
  pub kept : HasBlocks t k row

-- the positions below n were looked at, and the blocks have counts
pub record TablesKnown (t : Tables) (capacity : ℕ) (m : Marks) (n : ℕ) : Type 0 where
  pub holds : Holds t capacity n m
  pub blocks : Counted t capacity (before_mapping t)

-- L1 entry i comes next, the first of a sector
pub record L1Known (t : Tables) (capacity : ℕ) (m : Marks) (i : ℕ) : Type 0 where
  pub tables : TablesKnown t capacity m (l1_position t i)
  pub whole : i < t.header.l1_size → i % 64 ≡ 0

-- one of a sector that is there
pub record L1SectorKnown (t : Tables) (capacity : ℕ) (m : Marks) (i : ℕ) (row : List ℕ) : Type 0 where
  pub tables : TablesKnown t capacity m (l1_position t i)
  pub inside : i < t.header.l1_size
  pub kept : HasRow t i row

-- the L2 table of L1 entry i was looked at
pub record TableKnown (t : Tables) (capacity : ℕ) (m : Marks) (i : ℕ) (row : List ℕ) : Type 0 where
  pub tables : TablesKnown t capacity m (l1_position t (i + 1))
  pub inside : i < t.header.l1_size
  pub kept : HasRow t i row

-- all positions at which something stands were looked at
pub record AllKnown (t : Tables) (capacity : ℕ) (m : Marks) : Type 0 where
  pub end : ℕ
  pub low : before_mapping t ≤ end
  pub tables : TablesKnown t capacity m end
  pub rest : (n : ℕ) → end ≤ n → item t capacity n ≡ nothing

-- a walk over the tables stopped
pub record StopKnown (t : Tables) (capacity : ℕ) (m : Marks) (fault : LayerFault) : Type 0 where
  pub stops : Stops t capacity (before_mapping t) m fault
  pub blocks : Counted t capacity (before_mapping t)

-- so were the entries below j of the L2 table that L1 entry i names, and the row of the L1 table is kept
pub record EntriesKnown (t : Tables) (capacity : ℕ) (m : Marks) (i table j : ℕ) (row : List ℕ) : Type 0 where
  pub tables : TablesKnown t capacity m (l2_position t i j)
  pub inside : i < t.header.l1_size
  pub entry : l1_entry t i ≡ Ok (Some table)
  pub whole : j % 64 ≡ 0
  pub few : j < entries t
  pub kept : HasRow t i row

-- where the first walk ended: at a fault, or behind all that is there
abbrev pub IsEnd : Tables → ℕ → ℕ → Option LayerFault → Type 0
IsEnd t capacity at None = (m : ℕ) → at ≤ m → item t capacity m ≡ nothing
IsEnd t capacity at (Some fault) = FaultAt t capacity at fault

-- the first walk ended there, and named these clusters
pub record Walked (t : Tables) (capacity at : ℕ) (fault : Option LayerFault) (named : ℕ → Bool) : Type 0 where
  pub low : before_mapping t ≤ at
  pub checked : Checked t capacity at named
  pub end : IsEnd t capacity at fault
  pub blocks : Counted t capacity (before_mapping t)

-- the first walk ended, and no count was looked at
pub record EndKnown (t : Tables) (capacity : ℕ) (m : Marks) (fault : Option LayerFault) : Type 0 where
  pub naming : m.noted ≡ None
  pub at : ℕ
  pub walked : Walked t capacity at fault (used_by m)

-- the counts are known so far
pub record CountsKnown (t : Tables) (capacity : ℕ) (m : Marks) (fault : Option LayerFault) (count : Option Count) : Type 0 where
  pub at : ℕ
  pub named : ℕ → Bool
  pub walked : Walked t capacity at fault named
  pub maps : MapsFile t (room_of m.free) named m
  pub counting : IsCounting t (room_of m.free) named m count

abbrev pub WalkKnows : Tables → ℕ → Walk → Type 0
WalkKnows t capacity (walk.Blocks work k) = RowKnown t capacity work.marks k × (k < t.header.refcount_table_clusters * entries t)
WalkKnows t capacity (walk.Ask work ask) = ThenKnows t capacity work.marks ask.place ask.then × BlockKnown t ask.place ask.block
WalkKnows t capacity (walk.L1 work i) = L1Known t capacity work.marks i × (i < t.header.l1_size)
WalkKnows t capacity (walk.L2 work i table j row) = EntriesKnown t capacity work.marks i table j row
WalkKnows t capacity (walk.Counts work fault count) = CountsKnown t capacity work.marks fault (Some count)

-- ---- what a sector leaves

-- A layer that is sound, with its map: in it those clusters are free that aren't used.
pub record IsComplete (t : Tables) (capacity : ℕ) (m : Marks) : Type 0 where
  pub sound : (n : ℕ) → IsClean t capacity n
  pub free : (c : ℕ) → c < room_of m.free → free_by m c ≡ not (is_used t c)

-- where the file is known, what comes of a sector is known too
abbrev pub After : Tables → ℕ → Passed → Type 0
After t capacity passed = MatchPassed passed
    (λ next. WalkKnows t capacity next)
    (λ work. IsComplete t capacity work.marks)
    (λ fault. FirstFault t capacity fault)

-- what a function leaves of a file of which something is known
abbrev pub LeadsAt : ℕ → Work → (Tables → Type 0) → Passed → Type 0
LeadsAt capacity work P passed = (count : ℕ) (sectors : ℕ → List ℕ) → MarksFile work.marks (tables_of work (file_of count sectors))
    → P (tables_of work (file_of count sectors)) → After (tables_of work (file_of count sectors)) capacity passed

abbrev pub Leads : Work → (Tables → ℕ → Type 0) → Passed → Type 0
Leads work P passed = (capacity : ℕ) → LeadsAt capacity work (λ t. P t capacity) passed

-- the sector that has a place of the file
abbrev pub IsRead : ℕ → (ℕ → List ℕ) → ℕ → List ℕ → Type 0
IsRead count sectors place sector = sector ≡ sector_in count sectors (place / 512)
