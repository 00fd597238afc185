-- What the manager of a pool knows while it frees the sectors of a domain.
-- Claim: it is true after each of its steps, and stays true beside other hosts.
use Rattle.std.specs.Prelude.{◌≡◌, ℕ}
use Rattle.sd_names.specs.declared.id.Id.{Id}
use Rattle.shared_disk.specs.Content.{Content}
use Rattle.pool_model.specs.Leases.{IsTasked, Leads}
use Rattle.pool_model.specs.Pool.{Pool}
use Rattle.pool_model.specs.Rules.{IsListed}
use Rattle.pool_model.specs.Tasks.{NoneOpen}
use Rattle.sector_freeing.specs.Freeing.{domain_of, stage_of}
use Rattle.sector_freeing.specs.Knowing.{IsReady}
use Rattle.sector_freeing.specs.declared.freeing.SectorFreeing.{SectorFreeing}

-- the host is the manager of the pool, the domain is one of the pool's, and no task is open
pub record KnowsDomain (h : ℕ) (sd : Id) (p : Pool) : Type 0 where
  pub leads : Leads p h
  pub listed : IsListed p sd
  pub idle : NoneOpen p

abbrev pub KnowsPool : ℕ → SectorFreeing → Content → Pool → Type 0
KnowsPool h s d p = KnowsDomain h (domain_of s) p × IsReady (stage_of s) h (domain_of s) d

-- no image of the domain is held for a task
abbrev pub NoneTasked : Id → Pool → Type 0
NoneTasked sd p = (i : Id) → IsTasked p sd i → ⊥

-- the pool has no other domain
abbrev pub IsOnly : Id → Pool → Type 0
IsOnly sd p = (a : Id) → IsListed p a → a ≡ sd
