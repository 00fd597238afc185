-- Laws of what a host that takes the role knows, as statements.
use Rattle.std.specs.Prelude.{◌≡◌, ◌≢◌, ℕ, ◌≤◌, true}
use Rattle.sd_names.specs.UpSet.{Hosts, is_up}
use Rattle.shared_disk.specs.Content.{Content}
use Rattle.spm_role.specs.declared.spm.Spm.{Spm}
use Rattle.pool_model.specs.Downs.{DownPool}
use Rattle.pool_model.specs.Owned.{OwnedPool}
use Rattle.pool_model.specs.Pool.{Pool}
use Rattle.pool_model.specs.Standing.{Stands}
use Rattle.role_taking.specs.Knows.{KnowsManaged, KnowsTaking}
use Rattle.role_taking.specs.declared.taking.RoleTaking.{RoleTaking}

-- host h, which isn't this one, changes only what it may
pub record IsBeside (up : Hosts) (d : Content) (h g : ℕ) (p q : Pool) : Type 0 where
  pub stands : Stands up d p
  pub owned : OwnedPool h up p q
  pub apart : g ≢ h
  pub some : 1 ≤ g
  pub alive : is_up up g ≡ true

-- what host g knows while it takes the role, and once it has read the list, stays true beside that
abbrev pub OthersKeepTakings : Type 0
OthersKeepTakings = (up : Hosts) (d : Content) (h g : ℕ) (p q : Pool) (t : RoleTaking) → IsBeside up d h g p q → KnowsTaking g t p → KnowsTaking g t q

abbrev pub OthersKeepManagers : Type 0
OthersKeepManagers = (up : Hosts) (d : Content) (h g : ℕ) (p q : Pool) (spm : Spm) → IsBeside up d h g p q → KnowsManaged g spm p → KnowsManaged g spm q

-- and where another host goes down
abbrev pub DownsKeepTakings : Type 0
DownsKeepTakings = (h g : ℕ) (p q : Pool) (t : RoleTaking) → DownPool h p q → KnowsTaking g t p → KnowsTaking g t q

abbrev pub DownsKeepManagers : Type 0
DownsKeepManagers = (h g : ℕ) (p q : Pool) (spm : Spm) → DownPool h p q → KnowsManaged g spm p → KnowsManaged g spm q
