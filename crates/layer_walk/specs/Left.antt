-- How many sectors a walk wants at the most: those of the tables that are there, each once or twice.
use Rattle.std.specs.Prelude.{ℕ, ◌+◌, ◌-◌, ◌*◌, ◌/◌, ◌^◌, ◌<◌, ◌≤◌, max, Option, Some, None}
use Rattle.qcow_format.specs.declared.header.Header.{Header}
use Rattle.layer_walk.specs.Counting.{CountsBlock, block_parts, sectors_left, table_rows}
use Rattle.layer_walk.specs.Known.{MatchPassed}
use Rattle.layer_walk.specs.Positions.{head_count}
use Rattle.layer_walk.specs.declared.walk.Passed.{Passed}
use Rattle.layer_walk.specs.declared.walk.Then.{Then}
use Rattle.layer_walk.specs.declared.walk.Then.TheVariants as then
use Rattle.layer_walk.specs.declared.walk.Walk.{Walk}
use Rattle.layer_walk.specs.declared.walk.Walk.TheVariants as walk
use Rattle.layer_walk.specs.declared.work.Work.{Work}

-- the positions of the refcount table's entries, and of the L1 entries, by the header alone
abbrev pub block_start : Header → ℕ → ℕ
block_start h k = head_count h + k

abbrev pub l1_start : Header → ℕ → ℕ
l1_start h i = 1 + (8 * h.l1_size + (2 ^ h.cluster_bits - 1)) / 2 ^ h.cluster_bits + h.refcount_table_clusters * (1 + 2 ^ h.cluster_bits / 8) + i * (1 + 2 ^ h.cluster_bits / 8)

-- Below, `tables n` is how many positions from n on name a cluster of the header, a refcount block or an L2 table.
abbrev pub Antitone : (ℕ → ℕ) → Type 0
Antitone tables = (a b : ℕ) → a ≤ b → tables b ≤ tables a

-- how many blocks the refcount table's entries from k on name
abbrev pub blocks_of : Header → (ℕ → ℕ) → ℕ → ℕ
blocks_of h tables k = tables (block_start h k) - tables (l1_start h 0)

-- the rows of the L1 table from that of entry i on, and from the first behind it
abbrev pub l1_rows : Header → ℕ → ℕ
l1_rows h i = (h.l1_size + 63) / 64 - i / 64

abbrev pub rows_behind : Header → ℕ → ℕ
rows_behind h i = (h.l1_size + 63) / 64 - (i + 63) / 64

-- the L1 table's entries from i on, with the tables that they name
abbrev pub l1_left : Header → (ℕ → ℕ) → ℕ → ℕ
l1_left h tables i = max 1 (l1_rows h i) + block_parts h * tables (l1_start h i)

-- all counts, and the second walk behind them
abbrev pub counts_left : Header → (ℕ → ℕ) → ℕ
counts_left h tables = 2 + (table_rows h + block_parts h * blocks_of h tables 0) + l1_left h tables 0

-- what comes behind a walk over the L1 table, the first or the second
abbrev pub behind_left : Header → (ℕ → ℕ) → Option ℕ → ℕ
behind_left h tables None = counts_left h tables
behind_left h tables (Some noted) = 0

-- what comes behind the refcount table
abbrev pub first_left : Header → (ℕ → ℕ) → ℕ
first_left h tables = 3 + l1_left h tables 0 + counts_left h tables

-- the rows of the refcount table from that of entry k on
abbrev pub rows_from : Header → ℕ → ℕ
rows_from h k = max 1 (table_rows h - k / 64)

-- the refcount table's entries from k on, two sectors for each block, and what comes behind them
abbrev pub entries_left : Header → (ℕ → ℕ) → ℕ → ℕ
entries_left h tables k = rows_from h k + 2 * blocks_of h tables k + first_left h tables

-- one number that is asked for, or two
abbrev pub asks_left : Option ℕ → ℕ
asks_left None = 2
asks_left (Some block) = 1

abbrev pub then_left : Header → (ℕ → ℕ) → Then → ℕ
then_left h tables (then.Entries k row) = (rows_from h k - 1) + 2 * blocks_of h tables (k + 1) + first_left h tables
then_left h tables (then.Head n end fault) = 2 * (end - (n + 1))

abbrev pub walk_left : Header → (ℕ → ℕ) → Walk → ℕ
walk_left h tables (walk.Blocks work k) = entries_left h tables k
walk_left h tables (walk.Ask work ask) = asks_left ask.block + then_left h tables ask.then
walk_left h tables (walk.L1 work i) = l1_left h tables i + behind_left h tables work.marks.noted
walk_left h tables (walk.L2 work i table j row) =
    max 1 (block_parts h - j / 64) + (l1_rows h i - 1) + block_parts h * tables (l1_start h (i + 1)) + behind_left h tables work.marks.noted
walk_left h tables (walk.Counts work fault count) = 1 + sectors_left h (blocks_of h tables) count + l1_left h tables 0

-- a walk from the begin wants fewer
abbrev pub begin_left : Header → (ℕ → ℕ) → ℕ
begin_left h tables = 2 * (block_parts h * tables 0) + 3

-- the clusters of the header are among those that are counted
abbrev pub HeadFits : Header → (ℕ → ℕ) → Type 0
HeadFits h tables = head_count h + tables (head_count h) ≤ tables 0

-- an entry whose block or table is looked at names one of these clusters
abbrev pub ThenFits : Header → (ℕ → ℕ) → Then → Type 0
ThenFits h tables (then.Entries k row) = (tables (block_start h (k + 1)) < tables (block_start h k)) × HeadFits h tables
ThenFits h tables (then.Head n end fault) = end ≤ tables 0

abbrev pub Fits : Header → (ℕ → ℕ) → Walk → Type 0
Fits h tables (walk.Blocks work k) = HeadFits h tables
Fits h tables (walk.Ask work ask) = ThenFits h tables ask.then
Fits h tables (walk.L1 work i) = HeadFits h tables
Fits h tables (walk.L2 work i table j row) = (tables (l1_start h (i + 1)) < tables (l1_start h i)) × HeadFits h tables
Fits h tables (walk.Counts work fault count) = CountsBlock h (blocks_of h tables) count × HeadFits h tables

-- ---- on every disk

-- the entries that a walk looks behind are in their tables, and the clusters that are asked for among the header's
abbrev pub ThenInside : Header → Then → Type 0
ThenInside h (then.Entries k row) = k < h.refcount_table_clusters * (2 ^ h.cluster_bits / 8)
ThenInside h (then.Head n end fault) = end ≤ head_count h

abbrev pub IsInside : Header → Walk → Type 0
IsInside h (walk.Blocks work k) = Unit {0}
IsInside h (walk.Ask work ask) = ThenInside h ask.then
IsInside h (walk.L1 work i) = Unit {0}
IsInside h (walk.L2 work i table j row) = i < h.l1_size
IsInside h (walk.Counts work fault count) = Unit {0}

-- so they are behind a sector
abbrev pub StaysInside : Work → Passed → Type 0
StaysInside work passed = MatchPassed passed (λ next. IsInside work.header next) (λ _. Unit {0}) (λ _. Unit {0})

-- how many positions there are from n on, of which each may name a cluster
abbrev pub positions_from : Header → ℕ → ℕ
positions_from h n = l1_start h h.l1_size - n

-- whatever the sector, fewer are left than so many
abbrev pub BelowBy : Header → (Header → (ℕ → ℕ) → ℕ) → Passed → Type 0
BelowBy h bound passed = MatchPassed passed
    (λ next. (tables : ℕ → ℕ) → Antitone tables → Fits h tables next → walk_left h tables next < bound h tables)
    (λ _. Unit {0})
    (λ _. Unit {0})

abbrev pub Below : Work → (Header → (ℕ → ℕ) → ℕ) → Passed → Type 0
Below work bound passed = BelowBy work.header bound passed
