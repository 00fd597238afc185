-- Laws of what a host that recovers a pool knows, as statements.
use Rattle.std.specs.Prelude.{◌≢◌, ℕ, List}
use Rattle.sd_names.specs.UpSet.{Hosts}
use Rattle.sd_names.specs.declared.id.Id.{Id}
use Rattle.shared_disk.specs.Content.{Content}
use Rattle.shared_disk.specs.Crash.{DownLeaves}
use Rattle.pool_model.specs.Downs.{DownPool}
use Rattle.pool_model.specs.Pool.{Pool}
use Rattle.pool_model.specs.Standing.{Stands}
use Rattle.pool_model.specs.Verb.{Verb}
use Rattle.task_listing.specs.Listing.{Noted}
use Rattle.task_settling.specs.Laws.{IsBeside}
use Rattle.pool_recovering.specs.Knowing.{Knows}
use Rattle.pool_recovering.specs.declared.recovering.PoolRecovery.{PoolRecovery}

-- what the manager, host g, knows while it recovers the pool stays true where host h, which isn't this one, changes only what it may
abbrev pub OthersKeepRecoveries : Type 0
OthersKeepRecoveries =
    (up : Hosts) (v : Verb) (h g : ℕ) (d e : Content) (p q : Pool) (master : Id) (tasks : List Noted) (r : PoolRecovery) → IsBeside up v h g d e p q
    → Knows g master tasks r d p → Knows g master tasks r e q

-- and where another host goes down
abbrev pub DownsKeepRecoveries : Type 0
DownsKeepRecoveries =
    (up : Hosts) (h g : ℕ) (d e : Content) (p q : Pool) (master : Id) (tasks : List Noted) (r : PoolRecovery) → Stands up d p → DownLeaves d h e → DownPool h p q
    → g ≢ h → Knows g master tasks r d p → Knows g master tasks r e q
