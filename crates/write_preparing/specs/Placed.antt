-- A plan with the clusters that were taken for it.
use Rattle.std.specs.Prelude.{ℕ, List}
use Rattle.layer_placing.specs.Chosen.{listed}
use Rattle.write_planning.specs.declared.plan.WritePlan.{WritePlan}
use Rattle.write_preparing.specs.declared.placed.Placed.{Placed}

abbrev pub plan_of : Placed → WritePlan
plan_of p = p.plan

-- the clusters, by their numbers
abbrev pub clusters_of : Placed → List ℕ
clusters_of p = listed p.clusters
