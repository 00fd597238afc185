-- A part that is laid over a piece of a cluster.
use Rattle.std.specs.Prelude.{◌≡◌, ℕ, ◌+◌, ◌-◌, ◌<◌, ◌≤◌, List, length}
use Rattle.shared_disk.specs.Calls.{sectors_in}
use Rattle.shared_disk.specs.Content.{sector_of, zero_sector}
use Rattle.cluster_filling.specs.Cluster.{IsIn}
use Rattle.cluster_filling.specs.declared.cluster.Cluster.{Cluster}

-- a sector of the virtual disk is the part's, or zeros past the capacity, or as it was
pub record IsLaidSector (k : Cluster) (part : List ℕ) (n : ℕ) (before after : List ℕ) : Type 0 where
  pub inside : IsIn k (sectors_in part) n → after ≡ sector_of part (n - k.from)
  pub past : (IsIn k (sectors_in part) n → ⊥) → k.capacity ≤ n → after ≡ zero_sector
  pub kept : (IsIn k (sectors_in part) n → ⊥) → n < k.capacity → after ≡ before

-- so are the first sectors of a piece that begins with sector `first` of the virtual disk, and all others are as they were
pub record IsLaid (k : Cluster) (first : ℕ) (part : List ℕ) (to : ℕ) (before after : List ℕ) : Type 0 where
  pub len : length after ≡ length before
  pub laid : (j : ℕ) → j < to → IsLaidSector k part (first + j) (sector_of before j) (sector_of after j)
  pub rest : (j : ℕ) → to ≤ j → sector_of after j ≡ sector_of before j
