-- A cluster that was filled, in its volume's file, and what the volume read there before.
use Rattle.std.specs.Prelude.{◌≡◌, ℕ, ◌+◌, ◌<◌, ◌≤◌, List, Option, Some, None}
use Rattle.shared_disk.specs.Content.{File, seen, zero_sector}
use Rattle.qcow_format.specs.declared.entry.Entry.{Entry}
use Rattle.qcow_format.specs.declared.entry.Entry.TheVariants.{Absent, Zero, Data}
use Rattle.chain_model.specs.Folder.{Volumes}
use Rattle.volume_chain.specs.declared.chain.Chain.{Chain}
use Rattle.cluster_filling.specs.Cluster.{IsWanted}
use Rattle.cluster_filling.specs.declared.cluster.Cluster.{Cluster}

-- the host sees each sector of the cluster as it is to be
pub record SeesFilled (k : Cluster) (c : Chain) (x : Volumes) (part : List ℕ) (host : ℕ) (f : File) : Type 0 where
  pub inside : k.target + k.count ≤ f.size
  pub each : (j : ℕ) → j < k.count → IsWanted k c x part (k.first + j) (seen host f (k.target + j))

-- the medium has it so
pub record HasFilled (k : Cluster) (c : Chain) (x : Volumes) (part : List ℕ) (f : File) : Type 0 where
  pub inside : k.target + k.count ≤ f.size
  pub each : (j : ℕ) → j < k.count → IsWanted k c x part (k.first + j) (f.stable (k.target + j))

-- what a volume itself holds of a sector whose cluster has no data: nothing, or zeros
abbrev pub HoldsNoData : Entry → Option (List ℕ) → Type 0
HoldsNoData Absent held = held ≡ None
HoldsNoData (Zero place) held = held ≡ Some zero_sector
HoldsNoData (Data place) held = ⊥
