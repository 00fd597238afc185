-- How many clusters the header, the refcount table and the L1 table name, by which the sectors are counted that a walk wants.
use Rattle.std.specs.Prelude.{◌⊎◌, ℕ, zero, suc, ◌+◌, ◌-◌, ◌%◌, ◌<◌, ◌≤◌, Bool, nat_lt, ◌==◌, ◌||◌, ◌&&◌, if◌then◌else◌}
use Rattle.std.specs.Option.{is_some}
use Rattle.image_model.specs.Layer.{Tables, entries}
use Rattle.image_model.specs.Soundness.{before_mapping, names}
use Rattle.layer_walk.specs.Checked.{IsOnce}
use Rattle.layer_walk.specs.Positions.{l1_position}

-- The positions below `stop` have no fault by themselves, and name each cluster once. So is `stop` not, or nothing stands
-- from there on.
pub record IsStop (t : Tables) (capacity stop : ℕ) : Type 0 where
  pub once : (n : ℕ) → n < stop → IsOnce t capacity n
  pub end : (IsOnce t capacity stop → ⊥) ⊎ (l1_position t t.header.l1_size ≤ stop)

-- whether a position is of the header, of the refcount table or an L1 entry
abbrev pub is_table : Tables → ℕ → Bool
is_table t n = nat_lt n (before_mapping t) || (n - before_mapping t) % (1 + entries t) == 0

-- one where it is, and names a cluster
abbrev pub one_named : Tables → ℕ → ℕ → ℕ
one_named t capacity n = if is_table t n && is_some (names t capacity n) then 1 else 0

-- how many of so many positions from n on
unfoldable pub named_in : Tables → ℕ → ℕ → ℕ → ℕ
named_in t capacity zero n = 0
named_in t capacity (suc many) n = one_named t capacity n + named_in t capacity many (n + 1)

-- of those from n on, below `stop`
abbrev pub named_from : Tables → ℕ → ℕ → ℕ → ℕ
named_from t capacity stop n = named_in t capacity (stop - n) n
