-- How many steps a write takes at the most, in each of its stages.
use Rattle.std.specs.Prelude.{ℕ, zero, suc, ◌+◌, ◌-◌, ◌*◌, ◌/◌, ◌^◌, ◌<◌, min, slice_get, Option, Some, None}
use Rattle.sd_names.specs.Turn.{MatchTurn}
use Rattle.sd_names.specs.declared.id.Id.{Id}
use Rattle.qcow_layer.specs.Opening.{header_kept}
use Rattle.layer_placing.specs.Stages.{pieces_of}
use Rattle.volume_chain.specs.Chain.{open_in, path_in}
use Rattle.volume_chain.specs.declared.chain.Chain.{Chain}
use Rattle.volume_chain.specs.declared.volumes.OpenVolume.{OpenVolume}
use Rattle.volume_chain.specs.declared.volumes.OpenVolume.TheVariants.{Raw as RawVolume, Cow}
use Rattle.chain_reading.specs.Knowing.{place_on}
use Rattle.raw_writing.specs.Writing as raw
use Rattle.cluster_filling.specs.Left.{many, read_steps}
use Rattle.write_planning.specs.Linked.{sectors_of}
use Rattle.write_planning.specs.Part.{first_met, many_met}
use Rattle.write_planning.specs.Plan.{span_of}
use Rattle.write_planning.specs.Span.{count_of, first_of, width_of}
use Rattle.write_planning.specs.declared.span.Span.{Span}
use Rattle.write_preparing.specs.Placed.{plan_of}
use Rattle.write_preparing.specs.Preparing.{planned_in, preparing_left}
use Rattle.write_preparing.specs.declared.placed.Placed.{Placed}
use Rattle.write_filling.specs.Filling.{placed_of}
use Rattle.write_filling.specs.Left.{fillings_left}
use Rattle.write_linking.specs.Linking.{linking_left}
use Rattle.write_linking.specs.declared.linking.WriteLinking.{WriteLinking}
use Rattle.guest_writing.specs.Way.{StageTurn}
use Rattle.guest_writing.specs.declared.stage.Stage.{Stage}
use Rattle.guest_writing.specs.declared.stage.Stage.TheVariants.{Begun, Raw, Preparing, Filling, Linking}

-- ---- of the layer that is written

-- how many pieces of 65,536 bytes a cluster has
abbrev pub pieces_by : Option OpenVolume → ℕ
pieces_by (Some (Cow w)) = pieces_of w
pieces_by _ = 0

abbrev pub pieces_at : Chain → ℕ → ℕ
pieces_at c index = pieces_by (slice_get (open_in c) index)

abbrev pub linking_by : Option OpenVolume → WriteLinking → ℕ
linking_by (Some (Cow w)) k = linking_left w k
linking_by _ k = 0

-- ---- what is read for new clusters in the volumes below the one with an index of the path

-- so many pieces of a cluster from one on, each read by itself: two steps, and what the volumes take
abbrev pub pieces_read : Chain → Option Id → ℕ → ℕ → ℕ → ℕ → ℕ
pieces_read c below first count zero done = 0
pieces_read c below first count (suc n) done = 2 + read_steps c below (first + done) (min (count - done) 128) + pieces_read c below first count n (done + 128)

-- so many whole clusters from one on, each of so many sectors
abbrev pub clusters_read : Chain → ℕ → ℕ → ℕ → ℕ → ℕ
clusters_read c index sectors zero number = 0
clusters_read c index sectors (suc n) number = pieces_read c (slice_get (path_in c) (index + 1)) (number * sectors) sectors (many sectors) 0 + clusters_read c index sectors n (number + 1)

-- ---- with which number a stage begins at the most

abbrev pub span_for : Placed → Span
span_for placed = span_of (plan_of placed)

-- where each cluster that the part meets is a new one
abbrev pub filling_begins : Chain → ℕ → Span → ℕ
filling_begins c index s = 1 + count_of s + 2 * (count_of s * many (width_of s / 512)) + clusters_read c index (width_of s / 512) (count_of s) (first_of s)

abbrev pub linking_begins : Span → ℕ → ℕ
linking_begins s pieces = sectors_of s * (7 + pieces) + 2

-- The write of a part that meets t clusters of p pieces takes 64 + t (32 + 4 p) steps, and those of a read of the part widened to
-- whole clusters. The write to a raw volume takes four.
abbrev pub layer_begins : Chain → ℕ → ℕ → ℕ → ℕ → ℕ → ℕ
layer_begins c index at count width pieces = 64 + many_met at count width * (32 + 4 * pieces) + clusters_read c index (width / 512) (many_met at count width) (first_met at width)

abbrev pub begins_by : Option OpenVolume → Chain → ℕ → ℕ → ℕ → ℕ
begins_by (Some (Cow w)) c index at count = layer_begins c index at count (2 ^ (header_kept w).cluster_bits) (pieces_of w)
begins_by _ c index at count = 4

abbrev pub begins_at : Chain → Id → ℕ → ℕ → ℕ
begins_at c v at count = begins_by (slice_get (open_in c) (place_on v (path_in c))) c (place_on v (path_in c)) at count

-- ---- how many steps are left

abbrev pub stage_left : Stage → Id → ℕ → Chain → ℕ → ℕ
stage_left Begun v at c count = begins_at c v at count
stage_left (Raw w) v at c count = raw.steps_left w
stage_left (Preparing i p) v at c count = preparing_left (pieces_at c i) p + filling_begins c i (planned_in p) + linking_begins (planned_in p) (pieces_at c i)
stage_left (Filling i f) v at c count = fillings_left f c + linking_begins (span_for (placed_of f)) (pieces_at c i)
stage_left (Linking i k) v at c count = linking_by (slice_get (open_in c) i) k

-- fewer are, with the chain as the step left it
abbrev pub StageNears : Stage → Id → ℕ → Chain → Chain → ℕ → StageTurn → Type 0
StageNears stage v at c next count turn = MatchTurn turn (λ s. stage_left s v at next count < stage_left stage v at c count) (λ _. 0 < stage_left stage v at c count) (λ _ _. 0 < stage_left stage v at c count)
