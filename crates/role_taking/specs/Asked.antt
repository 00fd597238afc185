-- What a taking was asked for, and what it keeps of that.
use Rattle.std.specs.Prelude.{◌≡◌, ℕ, ◌+◌}
use Rattle.sd_names.specs.Turn.{MatchTurn}
use Rattle.sd_names.specs.declared.id.Id.{Id}
use Rattle.sd_names.specs.declared.turn.Turn.{Turn}
use Rattle.lease_area.specs.Move.{next_version}
use Rattle.lease_area.specs.declared.sector.Kind.TheVariants.{Guest}
use Rattle.spm_role.specs.Spm.{master_of, role_of, version_of}
use Rattle.spm_role.specs.Start.{domain_of, lver_of, prev_of, start_left}
use Rattle.spm_role.specs.declared.spm.Spm.{Spm}
use Rattle.role_taking.specs.declared.taking.RoleTaking.{RoleTaking}
use Rattle.role_taking.specs.declared.taking.RoleTaking.TheVariants.{Starting, Taken}

-- the master domain, and the owner and the version of its sector 0 that the role is to be taken from
pub record Asked : Type 0 where
  pub sd : Id
  pub prev : ℕ
  pub lver : ℕ

-- a start as asked
pub record IsStartOf (a : Asked) (domain : Id) (prev lver : ℕ) : Type 0 where
  pub domain_is : domain ≡ a.sd
  pub prev_is : prev ≡ a.prev
  pub lver_is : lver ≡ a.lver

-- the manager of the domain, at the version behind the one that was asked
pub record IsManagerAt (a : Asked) (spm : Spm) : Type 0 where
  pub master : master_of spm ≡ a.sd
  pub version : version_of spm ≡ next_version a.lver
  pub kind : (role_of spm).kind ≡ Guest

abbrev pub IsAsked : Asked → RoleTaking → Type 0
IsAsked a (Starting s) = IsStartOf a (domain_of s) (prev_of s) (lver_of s)
IsAsked a (Taken spm) = IsManagerAt a spm

-- a taking stays as it was asked for, and ends with a manager that is so
abbrev pub StaysAsked : Asked → Turn RoleTaking Spm (Unit {0}) → Type 0
StaysAsked a turn = MatchTurn turn (IsAsked a) (IsManagerAt a) (λ _ _. Unit {0})

-- how many more steps a taking makes at the most
abbrev pub taking_left : RoleTaking → ℕ
taking_left (Starting s) = start_left s + 1
taking_left (Taken spm) = 1
