-- Laws of listings, as statements.
use Rattle.std.specs.Prelude.{◌≢◌, ℕ}
use Rattle.sd_names.specs.UpSet.{Hosts}
use Rattle.pool_model.specs.Downs.{DownPool}
use Rattle.pool_model.specs.Leases.{Leads}
use Rattle.pool_model.specs.Owned.{OwnedPool}
use Rattle.pool_model.specs.Pool.{Pool}
use Rattle.task_listing.specs.Listing.{KnowsListing}
use Rattle.task_listing.specs.declared.listing.TaskListing.{TaskListing}

-- what the manager, host g, knows while it lists the tasks stays true where host h changes only what it may
abbrev pub OthersKeepListings : Type 0
OthersKeepListings = (up : Hosts) (h g : ℕ) (p q : Pool) (l : TaskListing) → OwnedPool h up p q → g ≢ h → Leads p g → KnowsListing l p → KnowsListing l q

-- and where it goes down
abbrev pub DownsKeepListings : Type 0
DownsKeepListings = (h : ℕ) (p q : Pool) (l : TaskListing) → DownPool h p q → KnowsListing l p → KnowsListing l q
