-- How many steps the filling of a part's new clusters takes at the most.
use Rattle.std.specs.Prelude.{ℕ, zero, suc, ◌+◌, ◌-◌, ◌*◌, ◌/◌, ◌<◌, min, Option, Some, None}
use Rattle.sd_names.specs.Turn.{MatchTurn}
use Rattle.sd_names.specs.declared.id.Id.{Id}
use Rattle.sd_names.specs.declared.turn.Turn.{Turn}
use Rattle.volume_chain.specs.Chain.{path_in}
use Rattle.volume_chain.specs.declared.chain.Chain.{Chain}
use Rattle.cluster_filling.specs.Cluster.{source_on}
use Rattle.cluster_filling.specs.Left.{many, read_steps, steps_left}
use Rattle.write_planning.specs.Linked.{place_at}
use Rattle.write_planning.specs.Plan.{found_at, span_of}
use Rattle.write_planning.specs.Span.{count_of, first_of, width_of}
use Rattle.write_preparing.specs.Placed.{clusters_of, plan_of}
use Rattle.write_preparing.specs.declared.placed.Placed.{Placed}
use Rattle.write_filling.specs.Said.{entry_found}
use Rattle.write_filling.specs.declared.fillings.Fillings.{Fillings}
use Rattle.write_filling.specs.declared.stage.Stage.{Stage}
use Rattle.write_filling.specs.declared.stage.Stage.TheVariants.{Next, Fills}

-- So many pieces, from one on, of a cluster of so many sectors that begins with the sector `first` of the virtual disk: four steps
-- for each, and what the volumes take that are read for it.
abbrev pub pieces_left : Chain → Option Id → ℕ → ℕ → ℕ → ℕ → ℕ
pieces_left c below first count zero done = 0
pieces_left c below first count (suc n) done = 4 + read_steps c below (first + done) (min (count - done) 128) + pieces_left c below first count n (done + 128)

-- a whole cluster
abbrev pub whole_left : Chain → Option Id → ℕ → ℕ → ℕ
whole_left c below number sectors = pieces_left c below (number * sectors) sectors (many sectors) 0

-- a cluster of the part's, which takes none where it gets no place
abbrev pub placed_left : Chain → Option Id → ℕ → ℕ → Option ℕ → ℕ
placed_left c below number sectors None = 0
placed_left c below number sectors (Some place) = whole_left c below number sectors

abbrev pub cluster_left : Chain → ℕ → Placed → ℕ → ℕ
cluster_left c index p j =
    placed_left c (source_on (path_in c) index (entry_found (found_at (plan_of p) j))) (first_of (span_of (plan_of p)) + j) (width_of (span_of (plan_of p)) / 512) (place_at (plan_of p) (clusters_of p) j)

-- so many clusters from one on: a step to begin each, and one behind the last
abbrev pub clusters_left : Chain → ℕ → Placed → ℕ → ℕ → ℕ
clusters_left c index p zero j = 1
clusters_left c index p (suc n) j = 1 + cluster_left c index p j + clusters_left c index p n (j + 1)

abbrev pub left_in : Stage → Fillings → Chain → ℕ
left_in Next s c = clusters_left c s.index s.placed (count_of (span_of (plan_of s.placed)) - s.done) s.done
left_in (Fills work) s c = steps_left work c + clusters_left c s.index s.placed (count_of (span_of (plan_of s.placed)) - (s.done + 1)) (s.done + 1)

abbrev pub fillings_left : Fillings → Chain → ℕ
fillings_left s c = left_in s.stage s c

-- fewer steps are left
abbrev pub Falls : Fillings → Chain → Turn Fillings Placed (Unit {0}) → Type 0
Falls s c turn = MatchTurn turn (λ next. fillings_left next c < fillings_left s c) (λ _. 0 < fillings_left s c) (λ _ _. Unit {0})
