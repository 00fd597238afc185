-- A cluster that is written whole, in sectors of 512 bytes, and what its sectors are to be.
use Rattle.std.specs.Prelude.{◌≡◌, ℕ, ◌+◌, ◌-◌, ◌*◌, ◌/◌, ◌^◌, ◌<◌, ◌≤◌, min, List, slice_get, Option, Some, None}
use Rattle.sd_names.specs.declared.id.Id.{Id}
use Rattle.shared_disk.specs.Calls.{sectors_in}
use Rattle.shared_disk.specs.Content.{sector_of, zero_sector}
use Rattle.qcow_format.specs.declared.entry.Entry.{Entry}
use Rattle.qcow_format.specs.declared.entry.Entry.TheVariants.{Absent, Zero, Data}
use Rattle.chain_model.specs.Chain.{IsBelow}
use Rattle.chain_model.specs.Flat.{flat}
use Rattle.chain_model.specs.Folder.{Volumes}
use Rattle.volume_chain.specs.declared.chain.Chain.{Chain}
use Rattle.chain_reading.specs.Knowing.{records_of}
use Rattle.cluster_filling.specs.declared.cluster.Cluster.{Cluster}
use Rattle.cluster_filling.specs.declared.cluster.NewCluster.{NewCluster}

-- a cluster in sectors
pub record IsClusterOf (n : NewCluster) (k : Cluster) : Type 0 where
  pub volume : k.volume ≡ n.volume
  pub below : k.below ≡ n.below
  pub target : n.place < 2 ^ 63 → k.target ≡ n.place / 512
  pub first : n.number * (n.width / 512) ≤ 2 ^ 54 → k.first ≡ n.number * (n.width / 512)
  pub count : k.count ≡ n.width / 512
  pub capacity : k.capacity ≡ n.capacity / 512
  pub from : k.from ≡ n.at / 512

-- the volume that is read for a cluster of the volume with this index on a path: none where the cluster reads as zeros
abbrev pub source_on : List Id → ℕ → Entry → Option Id
source_on path i Absent = slice_get path (i + 1)
source_on path i (Zero place) = None
source_on path i (Data place) = None

-- how many sectors the piece has that begins so many sectors into the cluster: one call carries 128
abbrev pub piece_at : Cluster → ℕ → ℕ
piece_at k done = min (k.count - done) 128

-- a sector of the virtual disk is one of a part of so many sectors
abbrev pub IsIn : Cluster → ℕ → ℕ → Type 0
IsIn k part n = (k.from ≤ n) × (n < k.from + part)

-- a sector outside the part as the volumes below read, zeros where there are none
abbrev pub ReadsBelow : Chain → Volumes → Option Id → ℕ → List ℕ → Type 0
ReadsBelow c x None n s = s ≡ zero_sector
ReadsBelow c x (Some u) n s = (us : List Id) → IsBelow (records_of c) u us → s ≡ flat (records_of c) x u us n

-- What a sector of the virtual disk is to be: the part's in the part, zeros past the capacity, else what the volumes below read.
pub record IsWanted (k : Cluster) (c : Chain) (x : Volumes) (part : List ℕ) (n : ℕ) (s : List ℕ) : Type 0 where
  pub inside : IsIn k (sectors_in part) n → s ≡ sector_of part (n - k.from)
  pub past : (IsIn k (sectors_in part) n → ⊥) → k.capacity ≤ n → s ≡ zero_sector
  pub below : (IsIn k (sectors_in part) n → ⊥) → n < k.capacity → ReadsBelow c x k.below n s
