-- The hosts that are up.
use Rattle.std.specs.Prelude.{◌≡◌, ◌≢◌, ℕ, ◌<◌, Bool, true, false, List}
use Rattle.std.specs.List.{slice_index_or}

-- a set of hosts: a test for each number from 0 to 250, of which 0 is no host
abbrev pub Hosts : Type 0
Hosts = List Bool

-- whether a host is in the set
abbrev pub is_up : Hosts → ℕ → Bool
is_up hosts h = slice_index_or hosts h false

-- the least host of the set other than one
pub record IsLeastBut (hosts : Hosts) (one h : ℕ) : Type 0 where
  pub up : is_up hosts h ≡ true
  pub other : h ≢ one
  pub least : (k : ℕ) → k < h → k ≢ one → is_up hosts k ≡ false
