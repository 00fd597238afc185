-- Which of a part's clusters have their entries in one sector of an L2 table, and the places that they get.
use Rattle.std.specs.Prelude.{◌≡◌, ◌≢◌, ℕ, ◌+◌, ◌-◌, ◌*◌, ◌/◌, ◌^◌, ◌<◌, ◌≤◌, if◌then◌else◌, min, List, slice_index, Option, Some, None}
use Rattle.layer_linking.specs.Links.{group_of, to_of}
use Rattle.layer_linking.specs.declared.links.Links.{Links}
use Rattle.write_planning.specs.Plan.{lacks_table, span_of, tables_below, target_at}
use Rattle.write_planning.specs.Span.{count_of, first_of, width_of}
use Rattle.write_planning.specs.declared.plan.Target.{Target}
use Rattle.write_planning.specs.declared.plan.Target.TheVariants.{InPlace, Kept, New}
use Rattle.write_planning.specs.declared.plan.WritePlan.{WritePlan}
use Rattle.write_planning.specs.declared.span.Span.{Span}

-- the sectors of entries, 64 to each, that the part's clusters have: how many, and which of all one of them is
abbrev pub sectors_of : Span → ℕ
sectors_of s = (first_of s + count_of s - 1) / 64 - first_of s / 64 + 1

abbrev pub group_in : Span → ℕ → ℕ
group_in s sector = first_of s / 64 + sector

-- the part's clusters with their entries in one of these sectors: from this index on, up to the other
abbrev pub start_in : Span → ℕ → ℕ
start_in s sector = 64 * group_in s sector - first_of s

abbrev pub end_in : Span → ℕ → ℕ
end_in s sector = min (64 * (group_in s sector + 1) - first_of s) (count_of s)

-- the place that a cluster gets, where it gets one, from the clusters that were placed
abbrev pub place_in : ℕ → List ℕ → Target → Option ℕ
place_in width placed (InPlace place) = None
place_in width placed (Kept place) = Some place
place_in width placed (New index) = Some (min (slice_index placed index * width) (2 ^ 64 - 1))

abbrev pub place_at : WritePlan → List ℕ → ℕ → Option ℕ
place_at p placed j = place_in (width_of (span_of p)) placed (target_at p j)

abbrev pub links_to : Option Links → ℕ → Option ℕ
links_to None k = None
links_to (Some links) k = to_of links k

abbrev pub IsGroup : ℕ → Option Links → Type 0
IsGroup group None = Unit {0}
IsGroup group (Some links) = group_of links ≡ group

-- the links of the part's clusters from one index up to another, which stand in one sector
pub record AreLinks (p : WritePlan) (placed : List ℕ) (group start end : ℕ) (links : Option Links) : Type 0 where
  pub sector : IsGroup group links
  pub here : (j : ℕ) → start ≤ j → j < end → links_to links (first_of (span_of p) + j) ≡ place_at p placed j
  pub others : (k : ℕ) → ((j : ℕ) → start ≤ j → j < end → k ≢ first_of (span_of p) + j) → links_to links k ≡ None

-- The new L2 table that is made with the links of a sector, by its index among the clusters that are placed: where the
-- sector has the first of the part's clusters under a table that the layer hasn't.
abbrev pub table_with : WritePlan → ℕ → Option ℕ
table_with p sector =
    if lacks_table p (start_in (span_of p) sector) then Some (tables_below p (start_in (span_of p) sector)) else None
