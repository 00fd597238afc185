-- Laws of what a host knows that becomes the manager, as statements.
use Rattle.std.specs.Prelude.{◌≢◌, ℕ}
use Rattle.sd_names.specs.UpSet.{Hosts}
use Rattle.shared_disk.specs.Content.{Content}
use Rattle.shared_disk.specs.Crash.{DownLeaves}
use Rattle.pool_model.specs.Downs.{DownPool}
use Rattle.pool_model.specs.Pool.{Pool}
use Rattle.pool_model.specs.Standing.{Stands}
use Rattle.pool_model.specs.Verb.{Verb}
use Rattle.task_settling.specs.Laws.{IsBeside}
use Rattle.role_starting.specs.Knowing.{Knows}
use Rattle.role_starting.specs.declared.starting.RoleStarting.{RoleStarting}

-- what host g knows while it becomes the manager stays true where host h, which isn't this one, changes only what it may
abbrev pub OthersKeepStarts : Type 0
OthersKeepStarts = (up : Hosts) (v : Verb) (h g : ℕ) (d e : Content) (p q : Pool) (s : RoleStarting) → IsBeside up v h g d e p q → Knows g s d p → Knows g s e q

-- and where another host goes down
abbrev pub DownsKeepStarts : Type 0
DownsKeepStarts = (up : Hosts) (h g : ℕ) (d e : Content) (p q : Pool) (s : RoleStarting) → Stands up d p → DownLeaves d h e → DownPool h p q → g ≢ h → Knows g s d p → Knows g s e q
