-- How many steps the read of a cluster takes at the most, up to the end of its next piece.
use Rattle.std.specs.Prelude.{ℕ, ◌+◌, ◌-◌, ◌<◌, min, Option}
use Rattle.sd_names.specs.Turn.{MatchTurn}
use Rattle.sd_names.specs.declared.turn.Turn.{Turn}
use Rattle.qcow_layer.specs.Looking.{looks_left, table_of}
use Rattle.volume_chain.specs.Chain.{path_in}
use Rattle.volume_chain.specs.declared.chain.Chain.{Chain}
use Rattle.volume_chain.specs.declared.subchain.Subchain.{Subchain}
use Rattle.chain_reading.specs.Knowing.{place_on}
use Rattle.chain_reading.specs.Left as reading
use Rattle.commit_reading.specs.Pieces.{count_of, end_in, first_in}
use Rattle.commit_reading.specs.declared.pieces.Pieces.{Pieces}
use Rattle.commit_reading.specs.declared.reading.CommitReading.{CommitReading}
use Rattle.commit_reading.specs.declared.reading.Stage.{Stage}
use Rattle.commit_reading.specs.declared.reading.Stage.TheVariants.{Begun, Looking, Next, Reading}

-- what the next piece of these sectors costs: a step to begin its read, two of the read itself, and what the volumes from the top on
-- cost
abbrev pub piece_steps : Chain → Subchain → ℕ → ℕ → ℕ
piece_steps c sub first end = 3 + reading.steps_from c first (min (end - first) 128) (place_on sub.top (path_in c))

-- those of the first piece of a cluster
abbrev pub cluster_steps : Chain → Subchain → ℕ → ℕ
cluster_steps c sub cluster = piece_steps c sub (first_in c sub cluster) (end_in c sub cluster)

abbrev pub left_in : Stage → CommitReading → Chain → ℕ
left_in Begun w c = 3 + cluster_steps c w.sub w.cluster
left_in (Looking looking) w c = looks_left (table_of looking) + cluster_steps c w.sub w.cluster
left_in (Next p) w c = piece_steps c w.sub p.first p.end
left_in (Reading p read) w c = reading.steps_left read c (count_of p)

abbrev pub steps_left : CommitReading → Chain → ℕ
steps_left w c = left_in w.stage w c

-- fewer steps are left
abbrev pub FallsIn : Stage → CommitReading → Chain → Turn CommitReading (Option Pieces) (Unit {0}) → Type 0
FallsIn stage w c turn = MatchTurn turn (λ next. steps_left next c < left_in stage w c) (λ _. 0 < left_in stage w c) (λ _ _. Unit {0})

abbrev pub Falls : CommitReading → Chain → Turn CommitReading (Option Pieces) (Unit {0}) → Type 0
Falls w c turn = FallsIn w.stage w c turn
