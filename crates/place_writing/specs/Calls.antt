-- The call of a step, whatever is known of the layer's file, and the cluster that comes next.
-- Claim: the clusters come one by one, and the piece of each that is data is written at its place.
use Rattle.std.specs.Prelude.{ℕ, List}
use Rattle.sd_names.specs.Turn.{MatchTurn}
use Rattle.shared_disk.specs.Calls.{IsSame}
use Rattle.shared_disk.specs.Content.{Content}
use Rattle.qcow_layer.specs.declared.layer.Layer.{Layer}
use Rattle.write_planning.specs.Plan.{target_at}
use Rattle.write_planning.specs.declared.plan.Target.{Target}
use Rattle.write_planning.specs.declared.plan.Target.TheVariants.{InPlace, Kept, New}
use Rattle.place_writing.specs.Places.{PassesOn, PlaceTurn, WritesPiece, index_of, plan_of}
use Rattle.place_writing.specs.declared.places.PlaceWriting.{PlaceWriting}

-- a step that isn't refused comes to the next cluster, or to the end behind the last one
abbrev pub ComesOn : PlaceWriting → PlaceTurn → Type 0
ComesOn s turn = MatchTurn turn (λ _. PassesOn s turn) (λ _. PassesOn s turn) (λ _ _. Unit {0})

-- the write of the piece where the next cluster is data, and nothing elsewhere
abbrev pub StepsAt : Target → PlaceWriting → Layer → ℕ → ℕ → List ℕ → PlaceTurn → Content → Content → Type 0
StepsAt (InPlace place) s w host faults part turn d e = WritesPiece s place w host faults part turn d e
StepsAt (Kept place) s w host faults part turn d e = IsSame d e
StepsAt (New index) s w host faults part turn d e = IsSame d e

abbrev pub StepsBy : PlaceWriting → Layer → ℕ → ℕ → List ℕ → PlaceTurn → Content → Content → Type 0
StepsBy s w host faults part turn d e = StepsAt (target_at (plan_of s) (index_of s)) s w host faults part turn d e
