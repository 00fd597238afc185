-- What the functions of a walk are told of a sector.
use Rattle.std.specs.Prelude.{◌≡◌, ℕ, ◌+◌, ◌-◌, ◌*◌, ◌/◌, ◌%◌, ◌^◌, ◌<◌, ◌≤◌, true, List, Option, Some, None}
use Rattle.sd_names.specs.declared.fault.LayerFault.{LayerFault}
use Rattle.qcow_format.specs.declared.header.Header.{Header}
use Rattle.image_model.specs.File.{file_of}
use Rattle.image_model.specs.Layer.{Tables, cluster_size, count_of}
use Rattle.layer_walk.specs.Bits.{room_of}
use Rattle.layer_walk.specs.Counting.{wanted_place}
use Rattle.layer_walk.specs.Known.{After, BlockKnown, CountsKnown, EntriesKnown, IsRead, ThenKnows, WalkKnows, tables_of, work_of}
use Rattle.layer_walk.specs.Marks.{MarksFile, free_by}
use Rattle.layer_walk.specs.Positions.{HasEntries}
use Rattle.layer_walk.specs.declared.count.Count.{Count}
use Rattle.layer_walk.specs.declared.marks.Marks.{Marks}
use Rattle.layer_walk.specs.declared.walk.Ask.{Ask}
use Rattle.layer_walk.specs.declared.walk.Passed.{Passed}
use Rattle.layer_walk.specs.declared.walk.Walk.{Walk}
use Rattle.layer_walk.specs.declared.walk.Walk.TheVariants as walk
use Rattle.layer_walk.specs.declared.work.Work.{Work}

-- a sector of an L2 table has the entries from j on
pub record SectorOfTable (t : Tables) (capacity : ℕ) (m : Marks) (i table j : ℕ) (row sector : List ℕ) : Type 0 where
  pub known : EntriesKnown t capacity m i table j row
  pub has : HasEntries t table j sector

-- ---- where the numbers stand that are wanted

-- the place as 64 bits hold it: the highest where they can't
pub record IsNear (place at : ℕ) : Type 0 where
  pub near : place < 2 ^ 64 → at ≡ place
  pub far : 2 ^ 64 ≤ place → at ≡ 2 ^ 64 - 1

abbrev pub asked_place : Header → ℕ → Option ℕ → ℕ
asked_place h place None = h.refcount_table_offset + 8 * (place / 2 ^ h.cluster_bits / (2 ^ h.cluster_bits / 2))
asked_place h place (Some block) = block + 2 * (place / 2 ^ h.cluster_bits % (2 ^ h.cluster_bits / 2))

abbrev pub place_of : Walk → ℕ
place_of (walk.Blocks work k) = work.header.refcount_table_offset + 8 * k
place_of (walk.Ask work ask) = asked_place work.header ask.place ask.block
place_of (walk.L1 work i) = work.header.l1_table_offset + 8 * i
place_of (walk.L2 work i table j row) = table + 8 * j
place_of (walk.Counts work fault count) = wanted_place work.header count

-- the count of a cluster that is asked about is known
pub record IsWithoutCount (t : Tables) (capacity : ℕ) (m : Marks) (ask : Ask) : Type 0 where
  pub known : ThenKnows t capacity m ask.place ask.then
  pub none : count_of t (ask.place / cluster_size t) ≡ 0

pub record IsWithCount (t : Tables) (capacity : ℕ) (m : Marks) (ask : Ask) : Type 0 where
  pub known : ThenKnows t capacity m ask.place ask.then
  pub some : 0 < count_of t (ask.place / cluster_size t)

-- the sector that has what is asked for next
abbrev pub AskTakes : Work → Ask → List ℕ → Passed → Type 0
AskTakes work ask sector passed = (capacity count : ℕ) (sectors : ℕ → List ℕ) → MarksFile work.marks (tables_of work (file_of count sectors))
    → IsRead count sectors (asked_place work.header ask.place ask.block) sector
    → ThenKnows (tables_of work (file_of count sectors)) capacity work.marks ask.place ask.then → BlockKnown (tables_of work (file_of count sectors)) ask.place ask.block
    → After (tables_of work (file_of count sectors)) capacity passed

-- the sector that has the next counts
abbrev pub CountsTake : Work → Option LayerFault → Count → List ℕ → Passed → Type 0
CountsTake work fault next sector passed = (capacity count : ℕ) (sectors : ℕ → List ℕ) → MarksFile work.marks (tables_of work (file_of count sectors))
    → IsRead count sectors (wanted_place work.header next) sector → CountsKnown (tables_of work (file_of count sectors)) capacity work.marks fault (Some next)
    → After (tables_of work (file_of count sectors)) capacity passed

-- the sector that a walk wants
abbrev pub WalkTakes : ℕ → Walk → List ℕ → Passed → Type 0
WalkTakes capacity walk sector passed = (count : ℕ) (sectors : ℕ → List ℕ) → MarksFile (work_of walk).marks (tables_of (work_of walk) (file_of count sectors))
    → IsRead count sectors (place_of walk) sector → WalkKnows (tables_of (work_of walk) (file_of count sectors)) capacity walk
    → After (tables_of (work_of walk) (file_of count sectors)) capacity passed

-- no cluster is named yet
pub record StartKnown (m : Marks) : Type 0 where
  pub naming : m.noted ≡ None
  pub free : (c : ℕ) → c < room_of m.free → free_by m c ≡ true
