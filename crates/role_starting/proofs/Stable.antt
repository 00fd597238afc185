-- What a host knows that becomes the manager stays true beside other hosts.
use Rattle.std.proofs.Common.{◌≢◌, ℕ}
use Rattle.sd_names.specs.UpSet.{Hosts}
use Rattle.shared_disk.specs.Content.{Content}
use Rattle.shared_disk.specs.Crash.{DownLeaves}
use Rattle.spm_role.specs.Spm.{master_of, tasks_of}
use Rattle.pool_model.specs.Downs.{DownPool}
use Rattle.pool_model.specs.Pool.{Pool}
use Rattle.pool_model.specs.Standing.{Stands}
use Rattle.pool_model.specs.Verb.{Verb}
use Rattle.role_taking.specs.Laws.{DownsKeepManagers, DownsKeepTakings, IsBeside as IsBesideTaking, OthersKeepManagers, OthersKeepTakings}
use Rattle.task_settling.specs.Laws.{IsBeside}
use Rattle.pool_recovering.specs.Laws.{DownsKeepRecoveries, OthersKeepRecoveries}
use Rattle.role_starting.specs.Knowing.{Knows}
use Rattle.role_starting.specs.declared.starting.RoleStarting.{RoleStarting}
use Rattle.role_starting.specs.declared.starting.RoleStarting.TheVariants.{Taking, Recovering}

module _ (takings : OthersKeepTakings) (managers : OthersKeepManagers) (recoveries : OthersKeepRecoveries) (up : Hosts) (v : Verb) (h g : ℕ) (d e : Content) (p q : Pool)
    (beside : IsBeside up v h g d e p q) where
  beside_taking : IsBesideTaking up d h g p q
  beside_taking = record { stands = beside.stands; owned = beside.owned; apart = beside.apart; some = beside.some; alive = beside.alive }

  pub others_keep : (s : RoleStarting) → Knows g s d p → Knows g s e q
  others_keep (Taking t) knows = takings up d h g p q t beside_taking knows
  others_keep (Recovering spm r) knows = (
    managers up d h g p q spm beside_taking knows.0,
    recoveries up v h g d e p q (master_of spm) (tasks_of spm) r beside knows.1,
  )

module _ (takings : DownsKeepTakings) (managers : DownsKeepManagers) (recoveries : DownsKeepRecoveries) (up : Hosts) (h g : ℕ) (d e : Content) (p q : Pool)
    (stands : Stands up d p) (leaves : DownLeaves d h e) (down : DownPool h p q) (apart : g ≢ h) where
  pub downs_keep : (s : RoleStarting) → Knows g s d p → Knows g s e q
  downs_keep (Taking t) knows = takings h g p q t down knows
  downs_keep (Recovering spm r) knows = (
    managers h g p q spm down knows.0,
    recoveries up h g d e p q (master_of spm) (tasks_of spm) r stands leaves down apart knows.1,
  )
