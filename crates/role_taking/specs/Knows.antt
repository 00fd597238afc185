-- What a host that takes the role has to know of the pool.
-- Claim: it is true after each of its steps, and stays true beside other hosts.
use Rattle.std.specs.Prelude.{◌≡◌, ◌≢◌, ◌⊎◌, ℕ, ◌≤◌, List, Contains, Some}
use Rattle.std.specs.List.Sorted.{IsStrictlySortedBy}
use Rattle.sd_names.specs.declared.id.Id.{Id}
use Rattle.sd_names.specs.Turn.{MatchTurn}
use Rattle.sd_names.specs.declared.turn.Turn.{Turn}
use Rattle.domain_meta.specs.declared.record.DomainRecord.{DomainRecord}
use Rattle.lease_area.specs.Move.{image_of}
use Rattle.lease_area.specs.Sector.{IsSector}
use Rattle.lease_area.specs.declared.sector.Kind.TheVariants.{Task}
use Rattle.lease_area.specs.declared.sector.LeaseRecord.{LeaseRecord}
use Rattle.lease_area.specs.declared.sector.Sector.{Sector}
use Rattle.lease_area.specs.declared.sector.Sector.TheVariants.{Empty, Lease}
use Rattle.spm_role.specs.Spm.{domains_of, host_of, master_of, role_of}
use Rattle.spm_role.specs.Start.{domain_of, stage_of}
use Rattle.spm_role.specs.declared.spm.Spm.{Spm}
use Rattle.spm_role.specs.declared.start.Stage.{Stage}
use Rattle.spm_role.specs.declared.start.Stage.TheVariants.{Begun, Known, Listed, Seen}
use Rattle.chain_model.specs.Opening.{id_cmp}
use Rattle.pool_model.specs.Pool.{Pool}
use Rattle.role_taking.specs.declared.taking.RoleTaking.{RoleTaking}
use Rattle.role_taking.specs.declared.taking.RoleTaking.TheVariants.{Starting, Taken}

-- A lease to which moves of sector 0 lead from this sector: the image stays, and an empty sector gets a version.
pub record IsBehind (x s : Sector) : Type 0 where
  pub lease : LeaseRecord
  pub is : s ≡ Lease lease
  pub image : lease.image ≡ image_of x
  pub version : x ≡ Empty → 1 ≤ lease.version

-- The domain is the master, and its sector 0 holds what was read there, or what moves have led to since.
pub record KnowsSector (x : Sector) (sd : Id) (p : Pool) : Type 0 where
  pub master : p.master ≡ Some sd
  pub fits : IsSector x
  pub role : (r : LeaseRecord) → x ≡ Lease r → r.kind ≢ Task
  pub comes : (p.sector sd 0 ≡ x) ⊎ IsBehind x (p.sector sd 0)

abbrev pub KnowsStage : Stage → Id → Pool → Type 0
KnowsStage Begun sd p = Unit {0}
KnowsStage Known sd p = p.master ≡ Some sd
KnowsStage (Seen x) sd p = KnowsSector x sd p
KnowsStage (Listed x pool) sd p = KnowsSector x sd p

-- sector 0 of the master is the lease that the host keeps
pub record KnowsLed (h : ℕ) (spm : Spm) (p : Pool) : Type 0 where
  pub master : p.master ≡ Some (master_of spm)
  pub lease : p.sector (master_of spm) 0 ≡ Lease (role_of spm)
  pub owner : host_of spm ≡ h

abbrev pub KnowsTaking : ℕ → RoleTaking → Pool → Type 0
KnowsTaking h (Starting s) p = KnowsStage (stage_of s) (domain_of s) p
KnowsTaking h (Taken spm) p = KnowsLed h spm p

-- exactly the domains of the pool, in order of their identifiers
pub record KnowsDomains (domains : List Id) (p : Pool) : Type 0 where
  pub rising : IsStrictlySortedBy id_cmp domains
  pub are : (sd : Id) → Contains domains sd → (r : DomainRecord) × (p.domain sd ≡ Some r)
  pub all : (sd : Id) (r : DomainRecord) → p.domain sd ≡ Some r → Contains domains sd

abbrev pub KnowsManaged : ℕ → Spm → Pool → Type 0
KnowsManaged h spm p = KnowsLed h spm p × KnowsDomains (domains_of spm) p

abbrev pub KnowsAfter : ℕ → Turn RoleTaking Spm (Unit {0}) → Pool → Type 0
KnowsAfter h turn p = MatchTurn turn (λ next. KnowsTaking h next p) (λ spm. KnowsManaged h spm p) (λ _ _. Unit {0})
