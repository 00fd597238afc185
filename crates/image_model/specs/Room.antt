-- The room of a layer: what decides whether a write finds clusters, and which clusters it takes.
use Rattle.std.specs.Prelude.{◌≡◌, ℕ, zero, suc, ◌+◌, ◌*◌, ◌/◌, ◌%◌, ◌^◌, ◌<◌, ◌≤◌, min, Bool, nat_lt, ◌==◌, ◌-◌, ◌&&◌, ◌||◌, not, true, false, if◌then◌else◌, Some}
use Rattle.qcow_format.specs.declared.entry.Entry.{Entry}
use Rattle.qcow_format.specs.declared.entry.Entry.TheVariants.{Absent, Zero, Data}
use Rattle.image_model.specs.Layer.{Tables, cluster_size, count_of, covered, entries, entry_at, has_table, is_used, l1_clusters}
use Rattle.image_model.specs.Soundness.{names}

-- A cluster of the virtual disk: the layer doesn't hold it, holds it as zeros without a place, or has a cluster for it.
pub data Kind : Type 0 where
  Missing : Kind
  Zeros : Kind
  Placed : Kind

abbrev pub kind_of : Entry → Kind
kind_of Absent = Missing
kind_of (Zero place) = if nat_lt 0 place then Placed else Zeros
kind_of (Data place) = Placed

-- the file's length, the capacity that the whole clusters of the L1 table map, and the bytes that the refcount table covers
pub record Room : Type 0 where
  pub length : ℕ
  pub version : ℕ
  pub cluster : ℕ
  pub mapped : ℕ
  pub covered : ℕ
  pub kind : ℕ → Kind
  pub table : ℕ → Bool
  pub used : ℕ → Bool

abbrev pub room_of : Tables → Room
room_of t = record {
  length = t.file.size;
  version = t.header.version;
  cluster = cluster_size t;
  mapped = l1_clusters t * entries t * (entries t * cluster_size t);
  covered = covered t;
  kind = λ k. kind_of (entry_at t k);
  table = λ k. has_table t k;
  used = λ c. is_used t c;
}

-- how many of so many numbers have a property
unfoldable pub how_many : (ℕ → Bool) → ℕ → ℕ
how_many P zero = 0
how_many P (suc n) = how_many P n + (if P n then 1 else 0)

-- how many clusters of a room that ends below cluster `end` are free
abbrev pub free_below : Room → ℕ → ℕ
free_below r end = how_many (λ c. not (r.used c)) end

-- ---- what a write of the clusters from `first` up to `end` needs

abbrev pub is_placed : Kind → Bool
is_placed Missing = false
is_placed Zeros = false
is_placed Placed = true

-- whether the j-th of the clusters from `first` on is the first of them that stands under its L2 table
abbrev pub is_first_under : ℕ → ℕ → ℕ → Bool
is_first_under per first j = j == 0 || (first + j) % per == 0

abbrev pub new_clusters : Room → ℕ → ℕ → ℕ
new_clusters r first end = how_many (λ j. not (is_placed (r.kind (first + j)))) (end - first)

abbrev pub new_tables : Room → ℕ → ℕ → ℕ
new_tables r first end = how_many (λ j. is_first_under (r.cluster / 8) first j && not (r.table (first + j))) (end - first)

-- the clusters that aren't there yet, and the L2 tables
abbrev pub Need : Room → ℕ → ℕ → ℕ
Need r first end = new_clusters r first end + new_tables r first end

-- ---- where it finds too few

-- the clusters below which a write takes its own: in the file, covered by counts, and at places that entries can name
abbrev pub end_of_room : Room → ℕ
end_of_room r = min (min r.length r.covered) (2 ^ 56) / r.cluster

-- A length in bytes that as room would do is the least of whole clusters with so many free ones, or 0 where none does.
pub data IsWanted (r : Room) (need : ℕ) : ℕ → Type 0 where
  enough : {end : ℕ} → need ≤ free_below r end → ((less : ℕ) → less < end → free_below r less < need)
      → end * r.cluster ≤ min r.covered (2 ^ 56) → IsWanted r need (end * r.cluster)
  never : free_below r (min r.covered (2 ^ 56) / r.cluster) < need → IsWanted r need 0

-- a write that needs so many clusters is short: fewer are free. What a refusal says: the room in bytes, and the wanted one.
pub record Short (r : Room) (need bytes length : ℕ) : Type 0 where
  pub few : free_below r (end_of_room r) < need
  pub room : bytes ≡ end_of_room r * r.cluster
  pub wanted : IsWanted r need length

-- ---- clusters of the file

-- a cluster that a position names
abbrev pub Named : Tables → ℕ → ℕ → Type 0
Named t capacity c = (n : ℕ) × (names t capacity n ≡ Some (c * cluster_size t))

-- a cluster with a count that no position names
pub record Leaked (t : Tables) (capacity c : ℕ) : Type 0 where
  pub counted : 0 < count_of t c
  pub unnamed : Named t capacity c → ⊥
