-- The cluster that is written next.
use Rattle.std.specs.Prelude.{◌≡◌, ℕ, ◌+◌}
use Rattle.volume_chain.specs.Chain.{path_in}
use Rattle.volume_chain.specs.declared.chain.Chain.{Chain}
use Rattle.chain_reading.specs.Knowing.{records_of}
use Rattle.cluster_filling.specs.Cluster.{source_on}
use Rattle.cluster_filling.specs.declared.cluster.NewCluster.{NewCluster}
use Rattle.write_planning.specs.Plan.{found_at, span_of}
use Rattle.write_planning.specs.Span.{first_of, width_of}
use Rattle.write_preparing.specs.Placed.{plan_of}
use Rattle.write_filling.specs.Said.{capacity_said, entry_found}
use Rattle.write_filling.specs.declared.fillings.Fillings.{Fillings}

-- the next cluster, which is to stand at a place
pub record IsNewCluster (s : Fillings) (place : ℕ) (c : Chain) (n : NewCluster) : Type 0 where
  pub volume : n.volume ≡ s.volume
  pub below : n.below ≡ source_on (path_in c) s.index (entry_found (found_at (plan_of s.placed) s.done))
  pub number : n.number ≡ first_of (span_of (plan_of s.placed)) + s.done
  pub width : n.width ≡ width_of (span_of (plan_of s.placed))
  pub target : n.place ≡ place
  pub capacity : n.capacity ≡ capacity_said (records_of c s.volume)
  pub at : n.at ≡ s.at
