-- What is known where the positions below one were looked at, and what is wrong with the next.
use Rattle.std.specs.Prelude.{◌≡◌, ℕ, ◌*◌, ◌/◌, ◌%◌, ◌<◌, Bool, true, false, nat_lt, not, ◌==◌, ◌||◌, ◌&&◌, if◌then◌else◌, Option, Some, None}
use Rattle.sd_names.specs.declared.fault.LayerFault.{LayerFault}
use Rattle.sd_names.specs.declared.fault.LayerFault.TheVariants.{LowRefcount, Shared}
use Rattle.image_model.specs.Layer.{Tables, cluster_size, count_of}
use Rattle.image_model.specs.Soundness.{Item, NamedBefore, item, names, own_fault}

-- nothing is wrong with a position by itself, and what it names wasn't named before
pub record IsOnce (t : Tables) (capacity n : ℕ) : Type 0 where
  pub fine : own_fault t.file.size (item t capacity n) ≡ None
  pub once : (place : ℕ) → names t capacity n ≡ Some place → NamedBefore t capacity n place → ⊥

-- Nothing is wrong with the positions below n by themselves, no cluster is named twice there, each name begins a cluster,
-- and the set is of the clusters named there.
pub record Checked (t : Tables) (capacity n : ℕ) (used : ℕ → Bool) : Type 0 where
  pub once : (m : ℕ) → m < n → IsOnce t capacity m
  pub aligned : (m place : ℕ) → m < n → names t capacity m ≡ Some place → place % cluster_size t ≡ 0
  pub marked : (c : ℕ) → used c ≡ true → NamedBefore t capacity n (c * cluster_size t)
  pub unmarked : (c : ℕ) → NamedBefore t capacity n (c * cluster_size t) → used c ≡ true

-- The positions below `stop` are so, one of them names a cluster with the count 0, and of the clusters that they name those
-- are free that have a count. The names below n have one.
pub record Finding (t : Tables) (capacity n : ℕ) (free : ℕ → Bool) : Type 0 where
  pub stop : ℕ
  pub once : (m : ℕ) → m < stop → IsOnce t capacity m
  pub high : (m place : ℕ) → m < stop → names t capacity m ≡ Some place → free (place / cluster_size t) ≡ true → 0 < count_of t (place / cluster_size t)
  pub low : (m place : ℕ) → m < stop → names t capacity m ≡ Some place → free (place / cluster_size t) ≡ false → count_of t (place / cluster_size t) ≡ 0
  pub at : ℕ
  pub before : at < stop
  pub place : ℕ
  pub name : names t capacity at ≡ Some place
  pub none : count_of t (place / cluster_size t) ≡ 0
  pub counted : (m place : ℕ) → m < n → names t capacity m ≡ Some place → 0 < count_of t (place / cluster_size t)

-- what is wrong with a name, given the clusters that are free
abbrev pub shared_name : ℕ → (ℕ → Bool) → Option ℕ → Option LayerFault
shared_name cluster free None = None
shared_name cluster free (Some place) = if free (place / cluster) then None else Some (Shared place)

-- in the second walk, which finds a name of a cluster that isn't free
abbrev pub low_name : ℕ → ℕ → (ℕ → Bool) → Option ℕ → Option LayerFault
low_name size cluster free None = None
low_name size cluster free (Some place) = if nat_lt place size && not (free (place / cluster)) then Some (LowRefcount place) else None

-- a fault of an item by itself comes before what is wrong with its name
abbrev pub or_fault : Option LayerFault → Option LayerFault → Option LayerFault
or_fault None later = later
or_fault (Some fault) later = Some fault

-- what is wrong with an item, in the first walk, and in the second, where a cluster is noted
abbrev pub against : Option ℕ → ℕ → ℕ → (ℕ → Bool) → Item → Option LayerFault
against None size cluster free x = or_fault (own_fault size x) (shared_name cluster free x.name)
against (Some noted) size cluster free x = low_name size cluster free x.name

-- the set with the cluster of a name, and without it
abbrev pub with_name : ℕ → (ℕ → Bool) → Option ℕ → ℕ → Bool
with_name cluster used None c = used c
with_name cluster used (Some place) c = c == place / cluster || used c

abbrev pub without_name : ℕ → (ℕ → Bool) → Option ℕ → ℕ → Bool
without_name cluster free None c = free c
without_name cluster free (Some place) c = if c == place / cluster then false else free c

-- the clusters that are free after an item
abbrev pub free_after : Option ℕ → ℕ → (ℕ → Bool) → Option ℕ → ℕ → Bool
free_after None cluster free name c = without_name cluster free name c
free_after (Some noted) cluster free name c = free c
