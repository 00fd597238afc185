-- The sectors of a cluster that are committed, and the pieces in which they are.
use Rattle.std.specs.Prelude.{◌≡◌, ℕ, ◌+◌, ◌-◌, ◌*◌, ◌≤◌, min, List, take, slice_get, Option, Some, None}
use Rattle.sd_names.specs.declared.id.Id.{Id}
use Rattle.volume_chain.specs.Chain.{open_in, path_in}
use Rattle.volume_chain.specs.declared.chain.Chain.{Chain}
use Rattle.volume_chain.specs.declared.subchain.Subchain.{Subchain}
use Rattle.volume_chain.specs.declared.volumes.OpenVolume.{OpenVolume}
use Rattle.volume_chain.specs.declared.volumes.OpenVolume.TheVariants.{Raw, Cow}
use Rattle.chain_reading.specs.Asked.{cluster_sectors, sectors_in}
use Rattle.chain_reading.specs.Knowing.{place_on}
use Rattle.commit_reading.specs.declared.pieces.Pieces.{Pieces}

-- the first sector that is left, the one behind the last, and how many the next piece has
abbrev pub first_of : Pieces → ℕ
first_of p = p.first

abbrev pub end_of : Pieces → ℕ
end_of p = p.end

abbrev pub count_of : Pieces → ℕ
count_of p = min (p.end - p.first) 128

-- what stands of the next piece in front of a part
abbrev pub front : Pieces → List ℕ → List ℕ
front p part = take (512 * count_of p) part

-- how many sectors a cluster of the top has
abbrev pub width_by : Option OpenVolume → ℕ
width_by None = 0
width_by (Some (Raw length)) = 0
width_by (Some (Cow l)) = cluster_sectors l

abbrev pub width_in : Chain → Id → ℕ
width_in c top = width_by (slice_get (open_in c) (place_on top (path_in c)))

-- where the cluster ends, or the volume of the two that has fewer sectors before that
abbrev pub end_in : Chain → Subchain → ℕ → ℕ
end_in c sub cluster = min (cluster * width_in c sub.top + width_in c sub.top) (min (sectors_in c sub.top) (sectors_in c sub.base))

-- where it begins, or there
abbrev pub first_in : Chain → Subchain → ℕ → ℕ
first_in c sub cluster = min (cluster * width_in c sub.top) (end_in c sub cluster)

-- all sectors of the cluster that both volumes have
pub record IsCluster (c : Chain) (sub : Subchain) (cluster : ℕ) (p : Pieces) : Type 0 where
  pub first : first_of p ≡ first_in c sub cluster
  pub end : end_of p ≡ end_in c sub cluster

-- the last of them
pub record IsInside (c : Chain) (sub : Subchain) (cluster : ℕ) (p : Pieces) : Type 0 where
  pub first : first_in c sub cluster ≤ first_of p
  pub end : end_of p ≡ end_in c sub cluster
