-- How many steps a read takes at the most.
use Rattle.std.specs.Prelude.{ℕ, ◌+◌, ◌-◌, ◌*◌, ◌<◌, nat_lt, if◌then◌else◌, List, [], ◌∷◌, drop, Option, Some, None}
use Rattle.sd_names.specs.Turn.{MatchTurn}
use Rattle.sd_names.specs.declared.id.Id.{Id}
use Rattle.sd_names.specs.declared.turn.Turn.{Turn}
use Rattle.qcow_layer.specs.Looking.{looks_left, table_of}
use Rattle.volume_chain.specs.Chain.{open_in, path_in}
use Rattle.volume_chain.specs.declared.chain.Chain.{Chain}
use Rattle.volume_chain.specs.declared.volumes.OpenVolume.{OpenVolume}
use Rattle.chain_reading.specs.Asked.{asked_in, asked_of, cluster_number, end_in}
use Rattle.chain_reading.specs.Choosing.{past}
use Rattle.chain_reading.specs.Knowing.{place_on}
use Rattle.chain_reading.specs.declared.asked.Asked.{Asked}
use Rattle.chain_reading.specs.declared.part.ReadPart.{ReadPart}
use Rattle.chain_reading.specs.declared.part.Stage.{Stage}
use Rattle.chain_reading.specs.declared.part.Stage.TheVariants.{Begun, Asking, Looking, Found}
use Rattle.chain_reading.specs.declared.running.Run.{Run}

-- how many clusters sectors `at` to `end` of the part meet, a raw volume being one
abbrev pub clusters : Option ℕ → ℕ → ℕ → ℕ → ℕ
clusters cluster first at end = if nat_lt at end then cluster_number cluster first (end - 1) - cluster_number cluster first at + 1 else 0

-- those that sectors of the part meet in a volume from this one on
abbrev pub clusters_in : Asked → ℕ → ℕ → ℕ → ℕ
clusters_in a first count at = clusters a.cluster first at (end_in a first count)

-- A cluster costs a choice, two steps of its look-up, its entry and a read; a volume a step more.
abbrev pub volume_steps : ℕ → ℕ → Asked → ℕ
volume_steps first count a = 5 * clusters_in a first count 0 + 1

-- those of these volumes of a path
abbrev pub path_steps : Chain → ℕ → ℕ → List Id → List OpenVolume → ℕ
path_steps c first count [] os = 0
path_steps c first count (v ∷ vs) [] = 0
path_steps c first count (v ∷ vs) (o ∷ os) = volume_steps first count (asked_of c v o) + path_steps c first count vs os

abbrev pub steps_from : Chain → ℕ → ℕ → ℕ → ℕ
steps_from c first count i = path_steps c first count (drop i (path_in c)) (drop i (open_in c))

-- a run that waits costs a step
abbrev pub wait : Run → ℕ
wait r = if nat_lt r.from r.to then 1 else 0

abbrev pub left_asking : ReadPart → Chain → ℕ → Option Asked → ℕ
left_asking p c count None = 1
left_asking p c count (Some a) = 5 * clusters_in a p.first count p.run.to + wait p.run + 1 + (steps_from c p.first count (p.index + 1) + 1)

abbrev pub left_found : ReadPart → Chain → ℕ → Option Asked → ℕ
left_found p c count None = 2
left_found p c count (Some a) = 5 * clusters_in a p.first count (past p a count) + wait p.run + 3 + (steps_from c p.first count (p.index + 1) + 1)

-- The steps that are left in a stage. The first finds the volume on the path.
abbrev pub left_in : Stage → ReadPart → Chain → ℕ → ℕ
left_in Begun p c count = steps_from c p.first count (place_on p.volume (path_in c)) + 2
left_in Asking p c count = left_asking p c count (asked_in c p.index)
left_in (Looking looking) p c count = left_found p c count (asked_in c p.index) + looks_left (table_of looking)
left_in (Found entry) p c count = left_found p c count (asked_in c p.index)

abbrev pub steps_left : ReadPart → Chain → ℕ → ℕ
steps_left p c count = left_in p.stage p c count

-- fewer steps are left of a part of so many sectors
abbrev pub FallsIn : Stage → ReadPart → Chain → ℕ → Turn ReadPart (Unit {0}) (Unit {0}) → Type 0
FallsIn stage p c count turn = MatchTurn turn (λ next. steps_left next c count < left_in stage p c count) (λ _. 0 < left_in stage p c count) (λ _ _. Unit {0})

abbrev pub Falls : ReadPart → Chain → ℕ → Turn ReadPart (Unit {0}) (Unit {0}) → Type 0
Falls p c count turn = FallsIn p.stage p c count turn
