-- What a host's memory has to say truly of the pool.
-- Claim: it is true after each step of the host.
use Rattle.std.specs.Prelude.{◌≡◌, ◌≢◌, ℕ, Contains, Option, Some, None}
use Rattle.sd_names.specs.declared.id.Id.{Id}
use Rattle.lease_area.specs.declared.sector.Sector.TheVariants.{Lease}
use Rattle.pool_model.specs.Knows.{Knows, KnowsLists}
use Rattle.pool_model.specs.Most.{WithinMost}
use Rattle.pool_model.specs.Pool.{Pool, Side, Writing}
use Rattle.pool_model.specs.State.{Kept, Running}
use Rattle.host_core.specs.Memory.{Leader, Memory}
use Rattle.host_core.specs.State.{state_of}

-- The lease that a manager keeps is what sector 0 holds, with its kind and its image. The machine asks for owner and version
-- alone, but an exchange compares all bytes.
abbrev pub KnowsLease : Option Leader → Pool → Type 0
KnowsLease None p = Unit {0}
KnowsLease (Some l) p = p.sector l.master 0 ≡ Lease l.lease

-- its lists of domains and tasks are the pool's
abbrev pub KnowsPool : Option Leader → Pool → Type 0
KnowsPool None p = Unit {0}
KnowsPool (Some l) p = KnowsLists l.domains l.tasks l.begun p

-- the host writes no box
abbrev pub WritesNoBox : ℕ → Pool → Type 0
WritesNoBox h p = (side : Side) (sd : Id) (g : ℕ) (w : Writing) → Contains (p.box side sd g).writings w → w.host ≢ h

-- the verb has had no more steps than it may have
abbrev pub KnowsSteps : ℕ → Option Running → Pool → Type 0
KnowsSteps h None p = Unit {0}
KnowsSteps h (Some run) p = WithinMost h run.verb run.kept p run.steps

pub record HostKnows (k : Kept) (x : Memory) (p : Pool) : Type 0 where
  pub machine : Knows x.id (state_of k x) p
  pub lease : KnowsLease x.leading p
  pub lists : KnowsPool x.leading p
  pub boxes : WritesNoBox x.id p
  pub steps : KnowsSteps x.id (state_of k x).running p
