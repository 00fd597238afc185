-- Laws of freeings, as statements.
use Rattle.std.specs.Prelude.{◌≢◌, ℕ}
use Rattle.sd_names.specs.UpSet.{Hosts}
use Rattle.sd_names.specs.declared.id.Id.{Id}
use Rattle.shared_disk.specs.Content.{Content}
use Rattle.shared_disk.specs.Crash.{DownLeaves}
use Rattle.pool_model.specs.Downs.{DownPool}
use Rattle.pool_model.specs.Marks.{liberate}
use Rattle.pool_model.specs.Pool.{Pool}
use Rattle.pool_model.specs.Rules.{IsListed, Spent}
use Rattle.pool_model.specs.Standing.{Stands}
use Rattle.pool_model.specs.Verb.{Verb}
use Rattle.task_settling.specs.Laws.{IsBeside}
use Rattle.sector_freeing.specs.Freeing.{IsAt}
use Rattle.sector_freeing.specs.Managing.{KnowsDomain, KnowsPool, NoneTasked}
use Rattle.sector_freeing.specs.declared.freeing.SectorFreeing.{SectorFreeing}
use Rattle.sector_freeing.specs.declared.freeing.Stage.TheVariants.{Looking}

-- a freeing that has begun knows all that it has to, where its host is the manager, the domain is the pool's, and no task is open
abbrev pub BegunKnow : Type 0
BegunKnow = (up : Hosts) (d : Content) (p : Pool) (h : ℕ) (sd : Id) (s : SectorFreeing) → Stands up d p → KnowsDomain h sd p → IsAt sd (Looking 1) s → KnowsPool h s d p

-- what the manager, host g, knows while it frees sectors stays true beside another host that changes only what it may
abbrev pub OthersKeepFreeings : Type 0
OthersKeepFreeings = (up : Hosts) (v : Verb) (h g : ℕ) (d e : Content) (p q : Pool) (s : SectorFreeing) → IsBeside up v h g d e p q → KnowsPool g s d p → KnowsPool g s e q

-- and so does what is known of a domain whose sectors were freed
abbrev pub OthersKeepFreed : Type 0
OthersKeepFreed =
    (up : Hosts) (v : Verb) (h g : ℕ) (d e : Content) (p q : Pool) (sd : Id) → IsBeside up v h g d e p q → KnowsDomain g sd p → NoneTasked sd p → KnowsDomain g sd q × NoneTasked sd q

-- and where another host goes down
abbrev pub DownsKeepFreeings : Type 0
DownsKeepFreeings =
    (up : Hosts) (h g : ℕ) (d e : Content) (p q : Pool) (s : SectorFreeing) → Stands up d p → DownLeaves d h e → DownPool h p q → g ≢ h → KnowsPool g s d p → KnowsPool g s e q

-- where each domain of the pool is so, nothing is left to free in it
abbrev pub FreedSpend : Type 0
FreedSpend = (up : Hosts) (d : Content) (p : Pool) → Stands up d p → ((sd : Id) → IsListed p sd → NoneTasked sd p) → Spent liberate p
