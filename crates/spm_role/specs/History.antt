-- What sector 0 holds from move to move.
use Rattle.std.specs.Prelude.{◌≡◌, ℕ, ◌≤◌, List, [], ◌∷◌}
use Rattle.sd_names.specs.UpSet.{Hosts}
use Rattle.lease_area.specs.Move.{RoleMove}
use Rattle.lease_area.specs.declared.sector.Sector.{Sector}

-- a host made a move of sector 0 that the rules allow
pub record IsMove (old new : Sector) : Type 0 where
  pub up : Hosts
  pub host : ℕ
  pub is_host : 1 ≤ host
  pub move : RoleMove up host old new

-- sector 0 held the first, then each of these, by one move each, and holds the last
abbrev pub IsHistory : Sector → List Sector → Sector → Type 0
IsHistory first [] last = first ≡ last
IsHistory first (next ∷ more) last = IsMove first next × IsHistory next more last
