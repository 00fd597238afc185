-- A placing that takes as many clusters as a plan wants.
use Rattle.std.specs.Prelude.{◌≡◌, ℕ, List, length}
use Rattle.layer_placing.specs.declared.placing.Placing.{Placing}
use Rattle.layer_placing.specs.Knows.{KeepsList}
use Rattle.layer_placing.specs.Placing.{stage_of}
use Rattle.write_planning.specs.Plan.{wanted_of}
use Rattle.write_planning.specs.declared.plan.WritePlan.{WritePlan}

-- the clusters that it has chosen, or chooses next, are so many
abbrev pub TakesWanted : WritePlan → Placing → Type 0
TakesWanted p work = (xs : List ℕ) → KeepsList (stage_of work) xs → length xs ≡ wanted_of p
