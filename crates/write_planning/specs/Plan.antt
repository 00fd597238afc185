-- What was looked up of the clusters that a part meets, and what its write does with each.
use Rattle.std.specs.Prelude.{◌≡◌, ℕ, zero, suc, ◌+◌, ◌/◌, ◌<◌, Bool, false, ◌&&◌, not, get_or, Option, Some, None}
use Rattle.qcow_format.specs.declared.entry.Entry.{Entry}
use Rattle.qcow_format.specs.declared.entry.Entry.TheVariants.{Absent, Zero, Data}
use Rattle.image_model.specs.Room.{Kind, Missing, Room, how_many, is_first_under, is_placed, kind_of}
use Rattle.qcow_layer.specs.declared.looking.Looked.{Looked}
use Rattle.write_planning.specs.Span.{count_of, first_of, width_of}
use Rattle.write_planning.specs.declared.plan.Target.{Target}
use Rattle.write_planning.specs.declared.plan.Target.TheVariants.{InPlace, Kept, New}
use Rattle.write_planning.specs.declared.plan.WritePlan.{WritePlan}
use Rattle.write_planning.specs.declared.span.Span.{Span}

abbrev pub span_of : WritePlan → Span
span_of p = p.span

-- how many clusters were looked up, and what was found of one, by its index
abbrev pub looked_up : WritePlan → ℕ
looked_up p = p.done

abbrev pub found_at : WritePlan → ℕ → Option Looked
found_at p j = get_or p.found j None

-- ---- what a cluster lacks

abbrev pub found_kind : Option Looked → Kind
found_kind None = Missing
found_kind (Some looked) = kind_of looked.entry

abbrev pub found_table : Option Looked → Bool
found_table None = false
found_table (Some looked) = looked.table

-- the layer has no cluster of the file for it
abbrev pub lacks_place : WritePlan → ℕ → Bool
lacks_place p j = not (is_placed (found_kind (found_at p j)))

-- it is the first of the part's clusters that stands under its L2 table, and the layer hasn't that table
abbrev pub lacks_table : WritePlan → ℕ → Bool
lacks_table p j = is_first_under (width_of (span_of p) / 8) (first_of (span_of p)) j && not (found_table (found_at p j))

-- how many clusters of the file those below an index want: for tables, and for data
abbrev pub tables_below : WritePlan → ℕ → ℕ
tables_below p j = how_many (lacks_table p) j

abbrev pub places_below : WritePlan → ℕ → ℕ
places_below p j = how_many (lacks_place p) j

-- how many clusters of the file the write wants, of which those of tables come first
abbrev pub tables_of : WritePlan → ℕ
tables_of p = tables_below p (count_of (span_of p))

abbrev pub wanted_of : WritePlan → ℕ
wanted_of p = tables_of p + places_below p (count_of (span_of p))

-- ---- what is done with a cluster

-- `new` is which of the clusters it gets that are placed
abbrev pub target_by : ℕ → Entry → Target
target_by new Absent = New new
target_by new (Zero zero) = New new
target_by new (Zero (suc place)) = Kept (suc place)
target_by new (Data place) = InPlace place

abbrev pub target_found : ℕ → Option Looked → Target
target_found new None = New new
target_found new (Some looked) = target_by new looked.entry

abbrev pub target_at : WritePlan → ℕ → Target
target_at p j = target_found (tables_of p + places_below p j) (found_at p j)

-- ---- as the layer has it

-- What was found is what a layer says, in whose words the room is that a write needs.
pub record Tells (p : WritePlan) (r : Room) : Type 0 where
  pub width : r.cluster ≡ width_of (span_of p)
  pub kinds : (j : ℕ) → j < count_of (span_of p) → found_kind (found_at p j) ≡ r.kind (first_of (span_of p) + j)
  pub tables : (j : ℕ) → j < count_of (span_of p) → found_table (found_at p j) ≡ r.table (first_of (span_of p) + j)

-- the clusters under one L2 table have it or not
abbrev pub HasTables : Room → Type 0
HasTables r = (i k : ℕ) → i / (r.cluster / 8) ≡ k / (r.cluster / 8) → r.table i ≡ r.table k
