-- How many steps a filling takes at the most.
use Rattle.std.specs.Prelude.{ℕ, zero, suc, ◌+◌, ◌-◌, ◌/◌, ◌<◌, Option, Some, None}
use Rattle.sd_names.specs.Turn.{MatchTurn}
use Rattle.sd_names.specs.declared.id.Id.{Id}
use Rattle.sd_names.specs.declared.turn.Turn.{Turn}
use Rattle.volume_chain.specs.Chain.{path_in}
use Rattle.volume_chain.specs.declared.chain.Chain.{Chain}
use Rattle.chain_reading.specs.Knowing.{place_on}
use Rattle.chain_reading.specs.Left as reading
use Rattle.cluster_filling.specs.Cluster.{piece_at}
use Rattle.cluster_filling.specs.declared.cluster.Cluster.{Cluster}
use Rattle.cluster_filling.specs.declared.filling.Filling.{Filling}
use Rattle.cluster_filling.specs.declared.filling.Stage.{Stage}
use Rattle.cluster_filling.specs.declared.filling.Stage.TheVariants.{Begun, Reading, Read}

-- what a piece costs in the volumes of the path from this one on
abbrev pub read_steps : Chain → Option Id → ℕ → ℕ → ℕ
read_steps c None first count = 0
read_steps c (Some u) first count = reading.steps_from c first count (place_on u (path_in c))

-- so many pieces from one on, each with a step to begin its read, two of the read itself beside those of the volumes, and its write
abbrev pub pieces_steps : Cluster → Chain → ℕ → ℕ → ℕ
pieces_steps k c zero done = 0
pieces_steps k c (suc n) done = 4 + read_steps c k.below (k.first + done) (piece_at k done) + pieces_steps k c n (done + 128)

-- what the volumes cost alone
abbrev pub reads_steps : Cluster → Chain → ℕ → ℕ → ℕ
reads_steps k c zero done = 0
reads_steps k c (suc n) done = read_steps c k.below (k.first + done) (piece_at k done) + reads_steps k c n (done + 128)

-- how many pieces so many sectors have
abbrev pub many : ℕ → ℕ
many sectors = (sectors + 127) / 128

-- those of a whole cluster
abbrev pub cluster_steps : Cluster → Chain → ℕ
cluster_steps k c = pieces_steps k c (many k.count) 0

-- those behind the piece that is written next
abbrev pub steps_behind : Filling → Chain → ℕ
steps_behind p c = pieces_steps p.cluster c (many (p.cluster.count - p.done) - 1) (p.done + 128)

abbrev pub left_in : Stage → Filling → Chain → ℕ
left_in Begun p c = pieces_steps p.cluster c (many (p.cluster.count - p.done)) p.done
left_in (Reading read) p c = reading.steps_left read c (piece_at p.cluster p.done) + 1 + steps_behind p c
left_in Read p c = 1 + steps_behind p c

abbrev pub steps_left : Filling → Chain → ℕ
steps_left p c = left_in p.stage p c

-- fewer steps are left
abbrev pub FallsIn : Stage → Filling → Chain → Turn Filling (Unit {0}) (Unit {0}) → Type 0
FallsIn stage p c turn = MatchTurn turn (λ next. steps_left next c < left_in stage p c) (λ _. 0 < left_in stage p c) (λ _ _. Unit {0})

abbrev pub Falls : Filling → Chain → Turn Filling (Unit {0}) (Unit {0}) → Type 0
Falls p c turn = FallsIn p.stage p c turn
