-- What the manager of a pool knows while it recovers it, with the master and the tasks that it keeps.
-- Claim: it is true after each of its steps, and stays true beside other hosts.
use Rattle.std.specs.Prelude.{◌≡◌, ℕ, List}
use Rattle.sd_names.specs.declared.id.Id.{Id}
use Rattle.shared_disk.specs.Content.{Content}
use Rattle.pool_model.specs.Leases.{Leads}
use Rattle.pool_model.specs.Pool.{Pool}
use Rattle.pool_model.specs.Tasks.{AreTasks}
use Rattle.task_listing.specs.Listing.{KnowsListing, Noted, domain_of}
use Rattle.task_listing.specs.declared.listing.TaskListing.{TaskListing}
use Rattle.task_settling.specs.Knowing.{Knows as KnowsSettling}
use Rattle.task_settling.specs.Settling.{master_of, task_of}
use Rattle.task_settling.specs.declared.settling.TaskSettling.{TaskSettling}
use Rattle.pool_recovering.specs.declared.recovering.PoolRecovery.{PoolRecovery}
use Rattle.pool_recovering.specs.declared.recovering.PoolRecovery.TheVariants.{Listing, Settling}

-- the host is the manager, and what it has listed is true
pub record ListsTasks (h : ℕ) (master : Id) (l : TaskListing) (p : Pool) : Type 0 where
  pub leads : Leads p h
  pub domain : domain_of l ≡ master
  pub listing : KnowsListing l p

-- the manager's tasks are the pool's, and the open one is settled
pub record SettlesOpen (h : ℕ) (master : Id) (tasks : List Noted) (t : Id) (s : TaskSettling) (d : Content) (p : Pool) : Type 0 where
  pub domain : master_of s ≡ master
  pub task : (task_of s).id ≡ t
  pub settling : KnowsSettling h s d p
  pub listed : AreTasks p tasks

abbrev pub Knows : ℕ → Id → List Noted → PoolRecovery → Content → Pool → Type 0
Knows h master tasks (Listing l) d p = ListsTasks h master l p
Knows h master tasks (Settling t s) d p = SettlesOpen h master tasks t s d p
