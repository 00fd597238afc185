-- A sizing between its steps, the ranges that get zeros, and the steps that are left.
use Rattle.std.specs.Prelude.{◌≡◌, ◌≢◌, ◌⊎◌, ℕ, ◌+◌, ◌-◌, ◌*◌, ◌/◌, ◌%◌, ◌^◌, ◌<◌, ◌≤◌, ◌==◌, max, min, nat_le, nat_lt, if◌then◌else◌, List, ◌++◌, take, replicate, None}
use Rattle.sd_names.specs.Turn.{MatchTurn}
use Rattle.sd_names.specs.declared.refusal.Refusal.TheVariants.{BadCapacity}
use Rattle.sd_names.specs.declared.turn.Turn.TheVariants.{More, Done, Ended}
use Rattle.shared_disk.specs.Content.{Content}
use Rattle.shared_disk.specs.Calls.{IsSame}
use Rattle.shared_disk.specs.Step.{EndsOnlyBy, IsDiskRefusal}
use Rattle.qcow_format.specs.declared.header.Header.{Header}
use Rattle.qcow_format.specs.declared.entry.Entry.{Entry}
use Rattle.qcow_format.specs.declared.entry.Entry.TheVariants.{Absent, Zero, Data}
use Rattle.qcow_layer.specs.Looking.{cluster_of, looks_left, table_of}
use Rattle.qcow_layer.specs.Opening.{capacity_kept, header_kept, parent_kept, target_kept, work_kept}
use Rattle.qcow_layer.specs.declared.layer.Layer.{Layer}
use Rattle.qcow_layer.specs.declared.looking.Looking.{Looking}
use Rattle.layer_heading.specs.Writing.{Turned}
use Rattle.layer_sizing.specs.Sized.{bound, cluster, l1_size_for, sized}
use Rattle.layer_sizing.specs.declared.raising.Part.{Part}
use Rattle.layer_sizing.specs.declared.raising.Part.TheVariants.{Tables as InTables, Rest as InRest}
use Rattle.layer_sizing.specs.declared.raising.Range.{Range}
use Rattle.layer_sizing.specs.declared.raising.Raising.{Raising}
use Rattle.layer_sizing.specs.declared.raising.Stage.{Stage}
use Rattle.layer_sizing.specs.declared.raising.Stage.TheVariants.{Seeking, Zeroing, Edge, Ready, Laid, Headed}
use Rattle.layer_sizing.specs.declared.sizing.Sizing.{Sizing}
use Rattle.layer_sizing.specs.declared.sizing.Sizing.TheVariants.{Begun, Going}

-- the raising of a capacity: to which, and how far it is
abbrev pub stage_of : Raising → Stage
stage_of r = r.stage

abbrev pub asked_of : Raising → ℕ
asked_of r = r.capacity

-- the capacity that a sizing was asked for
abbrev pub larger_of : Sizing → ℕ
larger_of (Begun larger) = larger
larger_of (Going r) = asked_of r

abbrev pub at_stage : Raising → Stage → Raising
at_stage r stage = record r { stage = stage }

abbrev pub going : Raising → Stage → Turned Sizing
going r stage = More (Going (at_stage r stage))

-- it goes on in some stage, with the same capacity
abbrev pub GoesTo : (Stage → Type 0) → Raising → Sizing → Type 0
GoesTo P r next = (stage : Stage) × P stage × (next ≡ Going (at_stage r stage))

abbrev pub IsLaid : Stage → Type 0
IsLaid stage = (sector : List ℕ) × (stage ≡ Laid sector)

-- the capacity that was asked for stays
abbrev pub IsSameSizing : Sizing → Sizing → Type 0
IsSameSizing s next = larger_of next ≡ larger_of s

-- ---- the layer in memory

-- the layer with another header and capacity, over the same backing file
pub record IsResized (layer : Layer) (larger : ℕ) (next : Layer) : Type 0 where
  pub target : target_kept next ≡ record (target_kept layer) { capacity = max (capacity_kept layer) larger }
  pub header : header_kept next ≡ sized (header_kept layer) larger
  pub parent : parent_kept next ≡ parent_kept layer
  pub marks : (work_kept next).marks ≡ (work_kept layer).marks

-- When it is done the layer has the new header and capacity, and before that it stays. One that is done in its first step was
-- asked for a capacity that isn't larger, and leaves the layer as it is.
abbrev pub KeepsSize : Sizing → Layer → Layer → Turned Sizing → Type 0
KeepsSize (Begun larger) layer after turn = after ≡ layer
KeepsSize (Going r) layer after turn = MatchTurn turn (λ _. after ≡ layer) (λ _. IsResized layer (asked_of r) after) (λ _ _. after ≡ layer)

-- ---- the bytes that get zeros

abbrev pub near : ℕ → ℕ
near at = min at (2 ^ 64 - 1)

-- the cluster in which the layer's capacity ends
abbrev pub last_cluster : Layer → ℕ
last_cluster layer = capacity_kept layer / cluster (header_kept layer)

-- the L1 entries that come into use
abbrev pub table_range : Header → ℕ → Range
table_range h larger = record { at = near (h.l1_table_offset + 8 * h.l1_size); end = near (h.l1_table_offset + 8 * l1_size_for h larger); part = InTables }

-- the rest of a cluster of data in which a capacity ends
abbrev pub rest_range : Header → ℕ → ℕ → Range
rest_range h capacity place = record { at = near (place + capacity % cluster h); end = near (place + cluster h); part = InRest }

-- a sector with zeros from a byte on
abbrev pub zeros_from : ℕ → List ℕ → List ℕ
zeros_from from sector = take from sector ++ replicate (512 - from) 0

-- how many zeros one call writes of a range, in bytes: whole sectors, 65,536 at the most
abbrev pub piece : Range → ℕ
piece range = (min (range.end - range.at) 65536 + 511) / 512 * 512

-- a range behind its first bytes
abbrev pub moved : Range → ℕ → Range
moved range by = record range { at = near (range.at + by) }

-- ---- which stage follows

-- the L1 entries get zeros, where any come into use
abbrev pub tables_stage : Header → ℕ → Stage
tables_stage h larger = if nat_lt (table_range h larger).at (table_range h larger).end then Zeroing (table_range h larger) else Ready

abbrev pub after_zeros : Header → ℕ → Part → Stage
after_zeros h larger InRest = tables_stage h larger
after_zeros h larger InTables = Ready

abbrev pub after_looking : Layer → ℕ → Entry → Stage
after_looking layer larger (Data place) = Zeroing (rest_range (header_kept layer) (capacity_kept layer) place)
after_looking layer larger (Zero place) = tables_stage (header_kept layer) larger
after_looking layer larger Absent = tables_stage (header_kept layer) larger

-- the first stage: the cluster in which the capacity ends is looked up, where it doesn't end with one
abbrev pub IsFirst : Layer → ℕ → Stage → Type 0
IsFirst layer larger stage =
    ((capacity_kept layer % cluster (header_kept layer) ≡ 0) × (stage ≡ tables_stage (header_kept layer) larger))
    ⊎ ((capacity_kept layer % cluster (header_kept layer) ≢ 0) × (looking : Looking) × (stage ≡ Seeking looking) × (cluster_of looking ≡ last_cluster layer) × (table_of looking ≡ None))

-- ---- the first step

-- a capacity that is larger, and within the bound
abbrev pub MayGet : Layer → ℕ → Type 0
MayGet layer larger = (capacity_kept layer < larger) × (larger ≤ bound (header_kept layer))

-- The first step refuses what is past the bound, with 69, the asked capacity and the bound; it is done with a capacity that isn't
-- larger; and it goes on with any other. Later steps are refused by the disk alone.
abbrev pub BeginsBy : Sizing → Layer → Turned Sizing → Type 0
BeginsBy (Begun larger) layer turn =
    ((bound (header_kept layer) < larger) × (turn ≡ Ended tt (BadCapacity larger (bound (header_kept layer)))))
    ⊎ ((larger ≤ bound (header_kept layer)) × (larger ≤ capacity_kept layer) × (turn ≡ Done tt)
    ⊎ (MayGet layer larger × (r : Raising) × (turn ≡ More (Going r)) × (asked_of r ≡ larger) × IsFirst layer larger (stage_of r)))
BeginsBy (Going r) layer turn = EndsOnlyBy IsDiskRefusal turn

-- it makes no call
abbrev pub BeginsWithout : Sizing → Content → Content → Type 0
BeginsWithout (Begun larger) d e = IsSame d e
BeginsWithout (Going r) d e = Unit {0}

-- ---- the steps that are left

-- how many writes of at most 65,536 bytes the bytes from one place to another take
abbrev pub pieces : ℕ → ℕ → ℕ
pieces at end = (end - at + 65535) / 65536

abbrev pub next_sector : ℕ → ℕ
next_sector at = at / 512 * 512 + 512

-- the steps of a range: an edge is read and written, then comes the rest, and then a sync
abbrev pub range_left : ℕ → ℕ → ℕ
range_left at end = 1 + (if nat_le end at then 0 else (if at % 512 == 0 then pieces at end else 2 + pieces (next_sector at) end))

abbrev pub rest_left : Header → ℕ
rest_left h = 4 + cluster h / 65536

abbrev pub tables_left : Header → ℕ → ℕ
tables_left h larger = 3 + range_left (table_range h larger).at (table_range h larger).end

abbrev pub behind_left : Header → ℕ → Part → ℕ
behind_left h larger InRest = tables_left h larger
behind_left h larger InTables = 3

abbrev pub stage_left : Header → ℕ → Stage → ℕ
stage_left h larger (Seeking looking) = looks_left (table_of looking) + (rest_left h + tables_left h larger)
stage_left h larger (Zeroing range) = range_left range.at range.end + behind_left h larger range.part
stage_left h larger (Edge range sector) = 2 + pieces (next_sector range.at) range.end + behind_left h larger range.part
stage_left h larger Ready = 3
stage_left h larger (Laid sector) = 2
stage_left h larger Headed = 1

abbrev pub sizing_left : Layer → Sizing → ℕ
sizing_left layer (Begun larger) = 3 + (rest_left (header_kept layer) + tables_left (header_kept layer) larger)
sizing_left layer (Going r) = stage_left (header_kept layer) (asked_of r) (stage_of r)
