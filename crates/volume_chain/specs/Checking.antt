-- What was gathered is checked by its records.
use Rattle.std.specs.Prelude.{◌≡◌, ◌⊎◌, ℕ, List, [], ◌∷◌, Contains, Option, Some, None}
use Rattle.sd_names.specs.Refusal.{refusal_number}
use Rattle.sd_names.specs.declared.id.Id.{Id}
use Rattle.sd_names.specs.declared.refusal.Refusal.{Refusal}
use Rattle.sd_names.specs.declared.refusal.Refusal.TheVariants.{NoVolume}
use Rattle.sd_names.specs.declared.turn.Turn.{Turn}
use Rattle.sd_names.specs.declared.turn.Turn.TheVariants.{More, Ended}
use Rattle.chain_records.specs.Checks.{FirstIs, record_checks}
use Rattle.chain_records.specs.Paths.{IsReadingPath}
use Rattle.chain_records.specs.Records.{first_missing, ids_of, records_in}
use Rattle.chain_records.specs.declared.volume.Volume.{Volume}
use Rattle.volume_chain.specs.declared.chain.Chain.{Chain}
use Rattle.volume_chain.specs.declared.chain.Target.{Target}
use Rattle.volume_chain.specs.declared.stages.Stage.{Stage}
use Rattle.volume_chain.specs.declared.stages.Stage.TheVariants.{Along}
use Rattle.volume_chain.specs.declared.volumes.OpenVolume.{OpenVolume}

abbrev pub StageTurn : Type 0
StageTurn = Turn Stage Chain (Unit {0})

-- the chain of these records along this path, of which nothing is open but this
abbrev pub chain_along : Target → List Volume → List Id → List OpenVolume → Chain
chain_along t xs path volumes = record { target = t; records = xs; path = path; volumes = volumes }

-- the first check that refuses ends the opening; where none does, the path of the reading volume is opened
abbrev pub IsCheckedBy : Target → List Volume → List OpenVolume → StageTurn → Option Id → Type 0
IsCheckedBy t xs volumes turn (Some v) = turn ≡ Ended tt (NoVolume v)
IsCheckedBy t xs volumes turn None =
    ((e : Refusal) × FirstIs (records_in xs) (record_checks (ids_of xs)) (Some e) × (turn ≡ Ended tt e))
    ⊎ ((path : List Id) × FirstIs (records_in xs) (record_checks (ids_of xs)) None × IsReadingPath (records_in xs) path × (turn ≡ More (Along (chain_along t xs path volumes))))

abbrev pub IsChecked : Target → List Volume → List OpenVolume → StageTurn → Type 0
IsChecked t xs volumes turn = IsCheckedBy t xs volumes turn (first_missing xs)

-- the numbers of the refusals that go by records
abbrev pub record_numbers : List ℕ
record_numbers = 57 ∷ 60 ∷ 65 ∷ 67 ∷ 68 ∷ []

abbrev pub IsRecordRefusal : Refusal → Type 0
IsRecordRefusal e = Contains record_numbers (refusal_number e)
