-- When the clusters of a part may get the places that a plan gives them.
use Rattle.std.specs.Prelude.{◌≡◌, ℕ, ◌+◌, ◌*◌, ◌^◌, ◌<◌, ◌≤◌, List, length, slice_index, Some}
use Rattle.image_model.specs.Layer.{Tables, cluster_size, entry_at}
use Rattle.qcow_layer.specs.declared.looking.Looked.{Looked}
use Rattle.layer_writing.specs.Holding.{IsSpare}
use Rattle.write_planning.specs.Plan.{found_at, span_of, target_at, wanted_of}
use Rattle.write_planning.specs.Span.{first_of, width_of}
use Rattle.write_planning.specs.declared.plan.Target.TheVariants.{New}
use Rattle.write_planning.specs.declared.plan.WritePlan.{WritePlan}

-- Of the clusters from one index up to another, what was found is what the layer says, and those that are taken for them are
-- spare, at places that entries can name. The clusters that are taken are different ones, as many as are wanted.
pub record MayGetPlaces (p : WritePlan) (placed : List ℕ) (t : Tables) (capacity start end : ℕ) : Type 0 where
  pub width : width_of (span_of p) ≡ cluster_size t
  pub found : (j : ℕ) → start ≤ j → j < end → (looked : Looked) × (found_at p j ≡ Some looked) × (looked.entry ≡ entry_at t (first_of (span_of p) + j))
  pub spare : (j m : ℕ) → start ≤ j → j < end → target_at p j ≡ New m → IsSpare t capacity (slice_index placed m * width_of (span_of p)) × (slice_index placed m * width_of (span_of p) < 2 ^ 56)
  pub many : length placed ≡ wanted_of p
  pub rising : (i j : ℕ) → i < j → j < length placed → slice_index placed i < slice_index placed j
